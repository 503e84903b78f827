use Rattle.std.proofs.Common.{◌∙◌, ℕ, ap, sym, subst, ◌++◌, ◌∷◌, [], Some, take, append_assoc}
use Rattle.nn_postponed.specs.Places.{present}
use Rattle.nn_postponed.specs.Links.{AreAbout}
use Rattle.nn_postponed.proofs.many.Many.add_all.Goals as goal
use Rattle.nn_postponed.proofs.Links.{about_at, taken_about, joined_about, slot_is}
use Rattle.nn_postponed.proofs.Places.{one_more, none_more, present_pushed}

pub add-requires : goal.add-requires
add-requires c =
    let b = c.args.block in
    let xs = c.args.messages.now in
    let i = c.loop-place.place in
    let same = about_at b xs c.requires.about i c.in-Some.message (slot_is xs i (Some c.in-Some.message) _ c.loop-place-test.true (sym c.in-Some.is)) in
    record {
      about = subst (λ (k : ℕ). AreAbout k (present c.loop-place.self)) (sym same)
          (subst (AreAbout b) (sym c.loop-place.invariant) (joined_about b (present c.args.self.now) (present (take i xs)) c.requires.held (taken_about b xs i c.requires.about)));
    }

pub loop-place-preserved-in_default : goal.loop-place-preserved-in_default
loop-place-preserved-in_default c = c.loop-place.invariant ∙ ap (λ l. present c.args.self.now ++ l) (sym (none_more c.args.messages.now c.loop-place.place _ c.loop-place-test.true c.in_default.is))

pub loop-place-preserved : goal.loop-place-preserved
loop-place-preserved c =
    let m = c.in-Some.message in
    present_pushed c.loop-place.self c.add.new.self m c.in-Ok.ensures.ok ∙ ap (λ l. l ++ m ∷ []) c.loop-place.invariant
    ∙ append_assoc (present c.args.self.now) (present (take c.loop-place.place c.args.messages.now)) (m ∷ []) ∙ ap (λ l. present c.args.self.now ++ l) (sym (one_more c.args.messages.now c.loop-place.place _ c.loop-place-test.true m c.in-Some.is))
