-- What a reader knows and has answered, and what reading an outline makes of it.
use Rattle.std.specs.Prelude.{◌≡◌, List, [], ◌++◌, Some, None, Result, Ok, Err}
use Rattle.pict_scope.specs.declared.error.ScopeError.{ScopeError}
use Rattle.pict_scope.specs.declared.error.ScopeError.TheVariants.{Named, Memory}
use Rattle.pict_scope.specs.declared.reader.Reader.{Reader}
use Rattle.pict_binders.specs.Numbered.{names_of}
use Rattle.pict_scope.specs.Layers.{here, outside}
use Rattle.pict_scope.specs.Around.{Around}
use Rattle.pict_scope.specs.Marks.{Mark, first_stop, value_meanings, type_meanings, binders_read}
use Rattle.pict_scope.specs.Outlines.{Outline, opens, marks}

-- what stands around the place where the reader is
abbrev pub around : Reader → Around
around r = record {
  texts = r.names.now;
  values = r.values;
  types_ = r.types;
  pattern_values = here r.pattern_values;
  pattern_types = here r.pattern_types;
  group = names_of (here r.group);
  next_value = r.next_value;
  next_type = r.next_type;
}

-- the reader has answered these marks, none of which is refused
pub record Answers (ms : List Mark) (old new : Reader) : Type 0 where
  pub none_stops : first_stop ms ≡ None
  pub values : new.value_targets.items ≡ old.value_targets.items ++ value_meanings ms
  pub types_ : new.type_targets.items ≡ old.type_targets.items ++ type_meanings ms
  pub order : new.order.items ≡ old.order.items ++ binders_read ms

-- the layers outside the open ones are as they were
pub record KeepsOutside (old new : Reader) : Type 0 where
  pub pattern_values : outside new.pattern_values ≡ outside old.pattern_values
  pub pattern_types : outside new.pattern_types ≡ outside old.pattern_types
  pub group : outside new.group ≡ outside old.group

-- from one place to another, where this stands around, with these marks
pub record Goes (behind_ : Around) (ms : List Mark) (old new : Reader) : Type 0 where
  pub around_ : around new ≡ behind_
  pub answers : Answers ms old new
  pub outside_ : KeepsOutside old new

-- what stands around is changed, and nothing is read
abbrev pub Moves : (Around → Around) → Reader → Reader → Type 0
Moves f old new = Goes (f (around old)) [] old new

pub record Reads (o : Outline) (old new : Reader) : Type 0 where
  pub around_ : around new ≡ opens o (around old)
  pub answers : Answers (marks o (around old)) old new
  pub outside_ : KeepsOutside old new

-- the refusal is that of the first mark that is refused; want of memory may come at any time
abbrev pub IsRefusal : List Mark → ScopeError → Type 0
IsRefusal ms (Named code span) = first_stop ms ≡ Some (code, span)
IsRefusal ms Memory = Unit {0}

pub record Refuses (o : Outline) (old : Reader) (e : ScopeError) : Type 0 where
  pub is_first : IsRefusal (marks o (around old)) e

abbrev pub IsRead : {T : Type 0} → Outline → Reader → Reader → Result T ScopeError → Type 0
IsRead o old new (Ok x) = Reads o old new
IsRead o old new (Err e) = Refuses o old e
