-- What the reader's smaller steps do.
use Rattle.std.specs.Prelude.{◌≡◌, ℕ, ◌-◌, [], ◌++◌, length, drop, Result, Ok, Err}
use Rattle.pict_scope.specs.declared.error.ScopeError.{ScopeError}
use Rattle.pict_scope.specs.declared.reader.Reader.{Reader}
use Rattle.pict_scope.specs.declared.reader.Place.{Place}
use Rattle.pict_scope.specs.declared.reader.Opened.{Opened}
use Rattle.pict_scope.specs.Layers.{here, outside}
use Rattle.pict_scope.specs.Around.{Around, with_group, before_pattern, behind_pattern}
use Rattle.pict_scope.specs.Outlines.{Outline, opens, marks}
use Rattle.pict_scope.specs.Reads.{around, Answers, Goes, IsRefusal, Moves}

-- there are so many binders around
pub record IsAt (p : Place) (r : Reader) : Type 0 where
  pub values : p.values ≡ length r.values
  pub types_ : p.types ≡ length r.types

-- with as many binders around as a place has
abbrev pub back_at : Place → Around → Around
back_at p a = record a { values = drop (length a.values - p.values) a.values; types_ = drop (length a.types_ - p.types) a.types_ }

abbrev pub GoesBack : Place → Reader → Reader → Type 0
GoesBack p old new = Moves (back_at p) old new

-- a group is opened in one with so many names, and closed
pub record OpensGroup (outer : ℕ) (old new : Reader) : Type 0 where
  pub around_ : around new ≡ with_group [] (around old)
  pub answers : Answers [] old new
  pub pattern_values : outside new.pattern_values ≡ outside old.pattern_values
  pub pattern_types : outside new.pattern_types ≡ outside old.pattern_types
  pub outer_ : outer ≡ old.group.count
  pub group : outside new.group ≡ old.group.binders

pub record ClosesGroup (outer : ℕ) (old new : Reader) : Type 0 where
  pub around_ : around new ≡ with_group (around new).group (around old)
  pub answers : Answers [] old new
  pub pattern_values : outside new.pattern_values ≡ outside old.pattern_values
  pub pattern_types : outside new.pattern_types ≡ outside old.pattern_types
  pub outer_ : new.group.count ≡ outer
  pub group : new.group.binders ≡ outside old.group

-- a pattern is opened in one with so many binders, and closed with what it binds
pub record OpensPattern (outer : Place) (old new : Reader) : Type 0 where
  pub around_ : around new ≡ before_pattern (around old)
  pub answers : Answers [] old new
  pub group : outside new.group ≡ outside old.group
  pub outer_values : outer.values ≡ old.pattern_values.count
  pub outer_types : outer.types ≡ old.pattern_types.count
  pub values : outside new.pattern_values ≡ old.pattern_values.binders
  pub types_ : outside new.pattern_types ≡ old.pattern_types.binders

abbrev pub with_patterns_of : Around → Around → Around
with_patterns_of b a = record a { pattern_values = b.pattern_values; pattern_types = b.pattern_types }

pub record ClosesPattern (outer : Place) (opened : Opened) (old new : Reader) : Type 0 where
  pub around_ : around new ≡ with_patterns_of (around new) (around old)
  pub answers : Answers [] old new
  pub group : outside new.group ≡ outside old.group
  pub opened_values : opened.values.items ≡ here old.pattern_values
  pub opened_types : opened.types.items ≡ here old.pattern_types
  pub outer_values : new.pattern_values.count ≡ outer.values
  pub outer_types : new.pattern_types.count ≡ outer.types
  pub values : new.pattern_values.binders ≡ outside old.pattern_values
  pub types_ : new.pattern_types.binders ≡ outside old.pattern_types

-- with what a pattern binds
abbrev pub enters : Opened → Around → Around
enters opened a = record a { values = opened.values.items ++ a.values; types_ = opened.types.items ++ a.types_ }

-- a pattern is read, and binds this over what comes after
pub record ReadsPattern (o : Outline) (opened : Opened) (old new : Reader) : Type 0 where
  pub goes : Goes (behind_pattern (around old) (opens o (before_pattern (around old)))) (marks o (before_pattern (around old))) old new
  pub values : opened.values.items ≡ (opens o (before_pattern (around old))).pattern_values
  pub types_ : opened.types.items ≡ (opens o (before_pattern (around old))).pattern_types

pub record RefusesPattern (o : Outline) (old : Reader) (e : ScopeError) : Type 0 where
  pub is_first : IsRefusal (marks o (before_pattern (around old))) e

abbrev pub IsReadPattern : Outline → Reader → Reader → Result Opened ScopeError → Type 0
IsReadPattern o old new (Ok opened) = ReadsPattern o opened old new
IsReadPattern o old new (Err e) = RefusesPattern o old e
