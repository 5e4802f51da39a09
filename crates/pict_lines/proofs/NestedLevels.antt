-- Coming out of a nested application from the right: what its steps may be asked.
use Rattle.std.proofs.Common.{subst, List, Option}
use Rattle.pict_syntax.specs.declared.span.Span.{Span}
use Rattle.pict_syntax.specs.declared.id.Id.{Id}
use Rattle.pict_syntax.specs.Trees.{Val}
use Rattle.pict_types.specs.Types.{PlainType}
use Rattle.pict_rules.specs.Found.{Found}
use Rattle.pict_rules.specs.Environments.{Environment}
use Rattle.pict_rules.specs.Regular.{IsExpected}
use Rattle.pict_lines.specs.Judging.{IsAskedFor}
use Rattle.pict_lines.specs.Chains.{Applied, nested, wanted_inside}
use Rattle.pict_lines.specs.Operators.{IsFoundFor, AreFoundFor, HaveRoom}
use Rattle.pict_lines.proofs.Rights.{IsLevel, level_left, level_less}
use Rattle.pict_lines.proofs.NestedAsked.{inside_asked}
use Rattle.pict_lines.proofs.NestedFormed.{expected_for, entered_found, entered_room, found_less}

pub level_found : {e e' : Environment} {s : Span} {f : Id} {o : Applied} {vs : List Val} {x : Option PlainType} {all fs : List Found} {g : Found} {at : Span} {given : Option PlainType} → IsLevel e e' s f o vs x all fs g at given → IsAskedFor e (nested s f vs) x → AreFoundFor e o.binders fs × IsFoundFor e o.binders g
level_found {e = e} {s = s} {f = f} {o = o} {vs = vs} {x = x} {all = all} {fs = fs} {g = g} p a =
    found_less e o.binders fs g (subst (AreFoundFor e o.binders) p.items (entered_found e s f o vs x all p.head a p.entered p.few))

pub level_room_left : {e e' : Environment} {s : Span} {f : Id} {o : Applied} {vs : List Val} {x : Option PlainType} {all fs : List Found} {g : Found} {at : Span} {given : Option PlainType} → IsLevel e e' s f o vs x all fs g at given → HaveRoom e s o.second fs
level_room_left {e = e} {s = s} {o = o} {vs = vs} {x = x} {fs = fs} p = entered_room e s o vs x fs (level_left p)

pub level_wanted : {e e' : Environment} {s : Span} {f : Id} {o : Applied} {vs : List Val} {x : Option PlainType} {all fs : List Found} {g : Found} {at : Span} {given : Option PlainType} → IsLevel e e' s f o vs x all fs g at given → IsAskedFor e (nested s f vs) x → IsExpected e (wanted_inside o x fs)
level_wanted {e = e} {s = s} {f = f} {o = o} {vs = vs} {x = x} {fs = fs} p a =
    expected_for e _ (wanted_inside o x fs) (inside_asked e s f o vs x fs p.head a (level_left p) (level_less p))
