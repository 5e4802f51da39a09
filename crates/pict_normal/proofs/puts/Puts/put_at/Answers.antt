-- What stands for a variable is an argument or an entry.
use Rattle.std.proofs.Common.{◌∙◌, length, sym, ap}
use Rattle.pict_types.specs.PlainContext.{plain_context}
use Rattle.pict_normal.specs.Putting.{replacement_by, variables_in}
use Rattle.pict_normal.proofs.puts.Puts.put_at.Goals as goal

pub returns-in-Arguments-clause-type_ : goal.returns-in-Arguments-clause-type_
returns-in-Arguments-clause-type_ c =
    c.put_argument.ensures.type_ ∙ sym (ap (λ x. (replacement_by x (plain_context c.args.self.now.context.now)).type_of c.args.i) c.in-Arguments.is)

pub returns-in-Arguments-clause-head : goal.returns-in-Arguments-clause-head
returns-in-Arguments-clause-head c =
    c.put_argument.ensures.head ∙ sym (ap (λ x. (replacement_by x (plain_context c.args.self.now.context.now)).head_of c.args.i) c.in-Arguments.is)

pub returns-in-Arguments-clause-room : goal.returns-in-Arguments-clause-room
returns-in-Arguments-clause-room c = c.put_argument.ensures.room (length (variables_in c.args.self.now))

pub returns-in-Entries-clause-type_ : goal.returns-in-Entries-clause-type_
returns-in-Entries-clause-type_ c =
    c.put_entry.ensures.type_ ∙ sym (ap (λ x. (replacement_by x (plain_context c.args.self.now.context.now)).type_of c.args.i) c.in-Entries.is)

pub returns-in-Entries-clause-head : goal.returns-in-Entries-clause-head
returns-in-Entries-clause-head c =
    c.put_entry.ensures.head ∙ sym (ap (λ x. (replacement_by x (plain_context c.args.self.now.context.now)).head_of c.args.i) c.in-Entries.is)
