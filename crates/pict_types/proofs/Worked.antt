-- The definitions at worked examples, each by computing.
use Rattle.std.proofs.Common.{◌≡◌, [], ◌∷◌, refl}
use Rattle.pict_types.specs.Types.{Both, Read, Top, Int, Var, Apply, Chan, Fields, Rec, no_type, types, no_label, Free, Below, no_bound, bounds, Plain, Op}
use Rattle.pict_types.specs.Measures.{weight_of, height_of}
use Rattle.pict_types.specs.Renaming.{bound_of}
use Rattle.pict_types.specs.Replacing.{unfolding_of, instance_of, arguments, replace_bound, applied}

-- [Int Int] weighs 3 and is 2 high
pair_weighs : weight_of [] (Fields no_bound (types Int (types Int no_type)) no_label) ≡ 3
pair_weighs = refl

pair_rises : height_of [] (Fields no_bound (types Int (types Int no_type)) no_label) ≡ 2
pair_rises = refl

-- [#X] is 2 high, and [#X<Int X] weighs 1, and 1 more than Int for the type field and for the variable
package_rises : height_of [] (Fields (bounds Free no_bound) no_type no_label) ≡ 2
package_rises = refl

package_weighs : weight_of [] (Fields (bounds (Below Int) no_bound) (types (Var 0) no_type) no_label) ≡ 5
package_weighs = refl

-- (rec X = ^X) unfolds to ^(rec X = ^X)
unfolded : unfolding_of (Chan Both (Var 0)) ≡ Chan Both (Rec (Chan Both (Var 0)))
unfolded = refl

-- [#X #F:(Type -> Type) X (F X)] with Int for X and the operator of ?Y for F is [Int ?Int]
instance : instance_of (Plain Int ∷ Op 1 (Chan Read (Var 0)) ∷ []) (types (Var 1) (types (Apply 0 (types (Var 1) no_type)) no_type)) no_label ≡ Fields no_bound (types Int (types (Chan Read Int) no_type)) no_label
instance = refl

-- an operator of two parameters takes its arguments in order, the last for variable 0
in_order : applied 2 (Fields no_bound (types (Var 1) (types (Var 0) no_type)) no_label) (types Int (types Top no_type)) ≡ Fields no_bound (types Int (types Top no_type)) no_label
in_order = refl

-- a bound that becomes Top is none
none_left : replace_bound (arguments (Plain Top ∷ [])) (Below (Var 0)) ≡ Free
none_left = refl

-- with X below ?Y in Y, the bound of X is written in both
bound_moved : bound_of (Below (Chan Read (Var 0)) ∷ Free ∷ []) 0 ≡ Below (Chan Read (Var 1))
bound_moved = refl
