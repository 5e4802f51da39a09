use Rattle.std.proofs.Common.{◌≡◌, ◌≤◌, true, false, length, nat_eq, sym, ◌∙◌, arith, ap}
use Rattle.std.specs.Cmp.Lexicographic.{pointwise}
use Rattle.pict_outside.specs.declared.shelf.Fetched.TheVariants.{Text, TooLong}
use Rattle.pict_top.specs.Origins.{only}
use Rattle.pict_top.proofs.Only.{IsRight, found, passed, none_there, whole_there}
use Rattle.pict_top.proofs.one_shelf.OneShelfShelf.fetch.Goals as goal

-- ---- a text that is too long

right-returns-then-limit-length : (c : goal.Then-limit-length) → IsRight (only c.args.self.now.name c.args.self.now.text) c.args.name.now c.args.limit (TooLong (length c.slice-text.result.now))
right-returns-then-limit-length c =
    let same : pointwise nat_eq c.args.name.now c.args.self.now.name ≡ true = rw (← c.as_bytes.ensures.value, ← c.slice.ensures) (sym c.eq.ensures ∙ c.if-eq.true) in
    whole_there (only c.args.self.now.name c.args.self.now.text) c.args.name.now c.args.limit c.args.self.now.text (found _ _ _ same) (TooLong (length c.slice-text.result.now)) (c.if-limit-length.true, ap length c.slice-text.ensures)

pub returns-then-limit-length-clause-given : goal.returns-then-limit-length-clause-given
returns-then-limit-length-clause-given c = (right-returns-then-limit-length c).given

pub returns-then-limit-length-clause-missing : goal.returns-then-limit-length-clause-missing
returns-then-limit-length-clause-missing c = (right-returns-then-limit-length c).missing

pub returns-then-limit-length-clause-too_long : goal.returns-then-limit-length-clause-too_long
returns-then-limit-length-clause-too_long c = (right-returns-then-limit-length c).too_long

-- ---- the whole text

right-returns-then-eq : (c : goal.In_ok-copy) → IsRight (only c.args.self.now.name c.args.self.now.text) c.args.name.now c.args.limit (Text c.in_ok-copy.copy)
right-returns-then-eq c =
    let same : pointwise nat_eq c.args.name.now c.args.self.now.name ≡ true = rw (← c.as_bytes.ensures.value, ← c.slice.ensures) (sym c.eq.ensures ∙ c.if-eq.true) in
    let is = c.in_ok-copy.ensures.items ∙ c.slice-text.ensures in
    let fits : length c.in_ok-copy.copy.items ≡ length c.slice-text.result.now = ap length c.in_ok-copy.ensures.items in
    let few : length c.slice-text.result.now ≤ c.args.limit = c.if-limit-length.false in
    whole_there (only c.args.self.now.name c.args.self.now.text) c.args.name.now c.args.limit c.args.self.now.text (found _ _ _ same) (Text c.in_ok-copy.copy) (omega (arith, fits, few), is)

pub returns-then-eq-clause-given : goal.returns-then-eq-clause-given
returns-then-eq-clause-given c = (right-returns-then-eq c).given

pub returns-then-eq-clause-missing : goal.returns-then-eq-clause-missing
returns-then-eq-clause-missing c = (right-returns-then-eq c).missing

pub returns-then-eq-clause-too_long : goal.returns-then-eq-clause-too_long
returns-then-eq-clause-too_long c = (right-returns-then-eq c).too_long

-- ---- another text

pub returns-clause-given : goal.returns-clause-given
returns-clause-given c =
    let apart : pointwise nat_eq c.args.name.now c.args.self.now.name ≡ false = rw (← c.as_bytes.ensures.value, ← c.slice.ensures) (sym c.eq.ensures ∙ c.if-eq.false) in
    (none_there (only c.args.self.now.name c.args.self.now.text) c.args.name.now c.args.limit (passed _ _ _ apart)).given

pub returns-clause-missing : goal.returns-clause-missing
returns-clause-missing c =
    let apart : pointwise nat_eq c.args.name.now c.args.self.now.name ≡ false = rw (← c.as_bytes.ensures.value, ← c.slice.ensures) (sym c.eq.ensures ∙ c.if-eq.false) in
    (none_there (only c.args.self.now.name c.args.self.now.text) c.args.name.now c.args.limit (passed _ _ _ apart)).missing

pub returns-clause-too_long : goal.returns-clause-too_long
returns-clause-too_long c =
    let apart : pointwise nat_eq c.args.name.now c.args.self.now.name ≡ false = rw (← c.as_bytes.ensures.value, ← c.slice.ensures) (sym c.eq.ensures ∙ c.if-eq.false) in
    (none_there (only c.args.self.now.name c.args.self.now.text) c.args.name.now c.args.limit (passed _ _ _ apart)).too_long
