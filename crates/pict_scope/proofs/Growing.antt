-- What stands around a place stands around what comes after it, outside of what was bound meanwhile.
use Rattle.std.proofs.Common.{◌≡◌, ℕ, ◌+◌, ◌-◌, List, [], ◌∷◌, ◌++◌, length, drop, refl, sym, ◌∙◌, ap, append_assoc, length-append, arith}
use Rattle.pict_syntax.specs.declared.id.Id.{Id}
use Rattle.pict_binders.specs.declared.binders.Binder.{Binder}
use Rattle.pict_scope.specs.Around.{Around, with_value, with_values, past_type, before_pattern, behind_pattern, with_group}
use Rattle.pict_scope.specs.Outlines.{Outline, empty, ◌▸◌, closed, value_use, type_use, binds_value, binds_type, binds_all, defines, pattern_value, pattern_type, pattern, group, once, opens}

pub record Grows (a b : Around) : Type 0 where
  pub more_values : List Binder
  pub values : b.values ≡ more_values ++ a.values
  pub more_types : List Binder
  pub types_ : b.types_ ≡ more_types ++ a.types_

stays : (a : Around) → Grows a a
stays a = record { more_values = []; values = refl; more_types = []; types_ = refl }

goes_on : {a b c : Around} → Grows a b → Grows b c → Grows a c
goes_on {a = a} h k = record {
  more_values = k.more_values ++ h.more_values;
  values = k.values ∙ (ap (λ vs. k.more_values ++ vs) h.values ∙ sym (append_assoc k.more_values h.more_values a.values));
  more_types = k.more_types ++ h.more_types;
  types_ = k.types_ ∙ (ap (λ vs. k.more_types ++ vs) h.types_ ∙ sym (append_assoc k.more_types h.more_types a.types_));
}

grows_by : (xs : List Id) (a : Around) → Grows a (with_values xs a)
grows_by [] a = stays a
grows_by (x ∷ xs) a = goes_on (record { more_values = record { name = x.name.0; number = a.next_value } ∷ []; values = refl; more_types = []; types_ = refl }) (grows_by xs (with_value x a))

pub grows : (o : Outline) (a : Around) → Grows a (opens o a)
unfolding opens
grows empty a = stays a
grows (o ▸ p) a = goes_on (grows o a) (grows p (opens o a))
grows (closed o) a = record { more_values = []; values = refl; more_types = []; types_ = refl }
grows (value_use s n) a = stays a
grows (type_use s n) a = stays a
grows (binds_value x) a = record { more_values = record { name = x.name.0; number = a.next_value } ∷ []; values = refl; more_types = []; types_ = refl }
grows (binds_type x o) a =
    let h = grows o (past_type a) in
    record { more_values = h.more_values; values = h.values; more_types = record { name = x.name.0; number = a.next_type } ∷ h.more_types; types_ = ap (λ vs. record { name = x.name.0; number = a.next_type } ∷ vs) h.types_ }
grows (binds_all xs) a = grows_by xs a
grows (defines x) a = stays a
grows (pattern_value x) a = record { more_values = []; values = refl; more_types = []; types_ = refl }
grows (pattern_type x o) a =
    let h = grows o (past_type a) in
    record { more_values = h.more_values; values = h.values; more_types = record { name = x.name.0; number = a.next_type } ∷ h.more_types; types_ = ap (λ vs. record { name = x.name.0; number = a.next_type } ∷ vs) h.types_ }
grows (pattern o p) a =
    let i = opens o (before_pattern a) in
    let h = grows p (behind_pattern a i) in
    record {
      more_values = i.pattern_values ++ h.more_values;
      values = ap (λ vs. i.pattern_values ++ vs) h.values ∙ sym (append_assoc i.pattern_values h.more_values a.values);
      more_types = i.pattern_types ++ h.more_types;
      types_ = ap (λ vs. i.pattern_types ++ vs) h.types_ ∙ sym (append_assoc i.pattern_types h.more_types a.types_);
    }
grows (group o) a = let h = grows o (with_group [] a) in record { more_values = h.more_values; values = h.values; more_types = h.more_types; types_ = h.types_ }
grows (once c x) a = record { more_values = []; values = refl; more_types = []; types_ = refl }

-- as many are left as there were
drop_more : (xs ys : List Binder) (n : ℕ) → n ≡ length xs → drop n (xs ++ ys) ≡ ys
drop_more [] ys n h = ap (λ k. drop k ys) h
drop_more (x ∷ xs) ys n h = ap (λ k. drop k (x ∷ (xs ++ ys))) h ∙ drop_more xs ys (length xs) refl

pub cut_back : (more ys zs : List Binder) (n : ℕ) → zs ≡ more ++ ys → n ≡ length ys → drop (length zs - n) zs ≡ ys
cut_back more ys zs n is at =
    ap (λ l. drop (length l - n) l) is ∙ drop_more more ys (length (more ++ ys) - n) (let k : length (more ++ ys) ≡ length more + length ys = length-append more ys in omega arith)
