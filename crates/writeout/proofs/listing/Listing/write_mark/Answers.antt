use Rattle.std.proofs.Common.{◌≡◌, [], ◌∷◌, pos, ◌+ℤ◌, nat_abs, ap, ◌∙◌, subst, arith, w32, SFits}
use Rattle.std.proofs.lemmas.Int.{to_z-of_z}
use Rattle.model.proofs.Laws.{mask_below}
use Rattle.pen.specs.Pens.{Adds}
use Rattle.pen.proofs.Laying.{adds_both}
use Rattle.sitelayout.specs.OneWord.{word_of_mask, word_of_reward}
use Rattle.writeout.proofs.listing.Listing.write_mark.Goals as goal

pub returns : goal.returns
returns g c =
    let m = g.M.SiteModel.meaning c.args.self.now.model.now in
    let fits : SFits w32 c.reward.result = record { sfits = c.reward.type_inv } in
    let reward = to_z-of_z w32 c.reward.result fits ∙ c.reward.ensures.reward in
    let mask : c.mask_word.result ≡ word_of_mask (m.mask c.args.code) =
    omega (arith, c.mask_word.ensures, c.mask.ensures.mask, mask_below m (g.met.M.SiteModel.lawful c.args.self.now.model.now) c.args.code) in
    let first : Adds (word_of_mask (m.mask c.args.code) ∷ []) c.args.pen.now c.put.new.self =
    subst (λ w. Adds (w ∷ []) c.args.pen.now c.put.new.self) mask c.put.ensures in
    let second : Adds (word_of_reward (nat_abs (m.reward c.args.code +ℤ pos 2000)) (m.site c.args.code) ∷ []) c.put.new.self c.put-2.new.self =
    subst (λ w. Adds (w ∷ []) c.put.new.self c.put-2.new.self)
    (c.reward_word.ensures ∙ ap (λ r. word_of_reward (nat_abs (r +ℤ pos 2000)) c.ground.result) reward ∙ ap (word_of_reward (nat_abs (m.reward c.args.code +ℤ pos 2000))) c.ground.ensures.site)
    c.put-2.ensures in
    adds_both (word_of_mask (m.mask c.args.code) ∷ []) (word_of_reward (nat_abs (m.reward c.args.code +ℤ pos 2000)) (m.site c.args.code) ∷ []) c.args.pen.now c.put.new.self c.put-2.new.self first second
