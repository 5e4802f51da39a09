-- Substitution. Levels make it one uniform map: no value changes under a binder.
use Rattle.std.specs.Prelude.{ℕ, nat_lt, ◌-◌, List, length, slice_get, unwrap_or, if◌then◌else◌}
use Rattle.pict_core.specs.Term.{Val, Vals, Labelled, Process, Var, Chan, Int, Char, Boolean, Text, PrimitiveVal, Record, no_vals, more_vals, no_labelled, more_labelled, Zero, Par, New, Out, In, If}

-- what stands in place of each variable and of each channel
pub record Replacement : Type 0 where
  pub variable : ℕ → Val
  pub channel : ℕ → Val

abbrev mutual
  pub replace_value : Replacement → Val → Val
  replace_value r (Var level) = r.variable level
  replace_value r (Chan number) = r.channel number
  replace_value r (Int n) = Int n
  replace_value r (Char byte) = Char byte
  replace_value r (Boolean b) = Boolean b
  replace_value r (Text bytes) = Text bytes
  replace_value r (PrimitiveVal p) = PrimitiveVal p
  replace_value r (Record positional labelled) = Record (replace_values r positional) (replace_labelled r labelled)

  pub replace_values : Replacement → Vals → Vals
  replace_values r no_vals = no_vals
  replace_values r (more_vals v vs) = more_vals (replace_value r v) (replace_values r vs)

  pub replace_labelled : Replacement → Labelled → Labelled
  replace_labelled r no_labelled = no_labelled
  replace_labelled r (more_labelled label v vs) = more_labelled label (replace_value r v) (replace_labelled r vs)

abbrev pub replace : Replacement → Process → Process
replace r Zero = Zero
replace r (Par p q) = Par (replace r p) (replace r q)
replace r (New p) = New (replace r p)
replace r (Out chan message at) = Out (replace_value r chan) (replace_value r message) at
replace r (In chan replicated pattern body) = In (replace_value r chan) replicated pattern (replace r body)
replace r (If test p q) = If (replace_value r test) (replace r p) (replace r q)

-- The values stand for the levels from m on; the levels after them move down by as many.
abbrev pub value_of_variable : ℕ → List Val → ℕ → Val
value_of_variable m vs level = if nat_lt level m then Var level else unwrap_or (slice_get vs (level - m)) (Var (level - length vs))

abbrev pub substitution : ℕ → List Val → Replacement
substitution m vs = record { variable = value_of_variable m vs; channel = Chan }

-- the process with these values, each over m variables, for its variables from level m on
abbrev pub substitute : ℕ → List Val → Process → Process
substitute m vs p = replace (substitution m vs) p
