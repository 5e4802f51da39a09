use Rattle.std.proofs.Common.{◌≡◌, ◌∙◌, ◌+◌, length, take, ap, sym, refl, subst, arith}
use Rattle.pict_region.proofs.Calls.{HasRoom, has_room, lengthened, GrowsBy, grown_by}
use Rattle.pict_region.proofs.region.Region.lengthen_by_block.Goals as goal
use Rattle.pict_region.proofs.region.Region.lengthen_by_block.Goals.{then-end-len+in_ok-lengthen, else-end-len}

room : (c : goal.After-self-1) → HasRoom c.self.inside c.if-end-len.self-inside c.args.width
room c =
    let len : c.self.inside.words.len ≡ length c.self.inside.words.items = c.self.inside.words.ok.0 in
    elim c.if-end-len.branch [
      | then-end-len+in_ok-lengthen w ↦
          let len' : w.lengthen.new.words.len ≡ length w.lengthen.new.words.items = w.lengthen.new.words.ok.0 in
          subst (λ b. HasRoom c.self.inside b c.args.width) (sym w.self-inside-is)
          (lengthened c.self.inside _ c.args.width c.self.invariant
          (ap (λ n. take n w.lengthen.new.words.items) (sym len) ∙ w.in_ok-lengthen.ensures.kept)
          (omega (arith, w.in_ok-lengthen.ensures.small, len')) refl (omega (arith, w.in_ok-lengthen.ensures.ok, len')))
      | else-end-len w ↦
          subst (λ b. HasRoom c.self.inside b c.args.width) (sym w.self-inside-is)
          (has_room c.self.inside c.args.width c.self.invariant (omega (arith, w.if-end-len.false, c.len.ensures, len)))
    ]

grows : (c : goal.After-self-1) → GrowsBy c.put_block.new.words.items (c.self.inside.made + 1 + c.args.width) c.put_block.new.lists.items c.args.self.now c.args.width
grows c =
    grown_by c.self.inside c.if-end-len.self-inside c.args.self.now c.args.width _ _ c.self.view_is c.self.invariant (room c)
    (omega (arith, c.requires.positive)) c.requires.listed c.put_block.ensures.words c.put_block.ensures.lists

pub invariant_of-self-2 : goal.invariant_of-self-2
invariant_of-self-2 c = (grows c).kept

pub returns-clause-ok : goal.returns-clause-ok
returns-clause-ok c = (grows c).more

pub returns-clause-others : goal.returns-clause-others
returns-clause-others c = (grows c).others

pub returns-clause-live : goal.returns-clause-live
returns-clause-live c = (grows c).live
