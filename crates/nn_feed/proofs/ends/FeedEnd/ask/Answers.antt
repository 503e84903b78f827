use Rattle.std.proofs.Common.{◌≡◌, true, refl, inl, inr, subst, ap, ◌∙◌, sym, zero-add, length, ◌∷◌, [], ◌++◌}
use Rattle.std.specs.Option.{is_some}
use Rattle.nn_segment.specs.Source.{Answer}
use Rattle.nn_feed.specs.Feeds.{placed, answers_of, is_last, has_last, EndsIn, IsFeed}
use Rattle.nn_feed.specs.Passes.{got_in, ending_in}
use Rattle.nn_feed.proofs.Keeps.{gets, learns_nothing}
use Rattle.nn_feed.proofs.Feeds.{has_last_push, last_place, in_answer, as_answer_ends, not_some, ending_push, ended_last}
use Rattle.nn_feed.proofs.ends.FeedEnd.ask.Goals as goal

pub recv_as-requires-clause-rule : goal.recv_as-requires-clause-rule
recv_as-requires-clause-rule g c = (gets _ _ c.args.self.now.role, learns_nothing _ _)

pub returns-in-Some-clause-gives : goal.returns-in-Some-clause-gives
returns-in-Some-clause-gives g c =
    let self = c.args.self.now in let ending = c.in-Some.ending in
    let ends = in_answer (got_in self.pass) ending (sym self.last ∙ c.in-Some.is) in
    let P : Answer → Type 0 = λ a. (is_last a ≡ true) × EndsIn (answers_of (got_in self.pass)) a in
    let h = subst P (sym c.again.ensures) (as_answer_ends ending, ends) in
    (refl, inl (h.0, h.1, refl))

pub invariant_of-self-2-clause-told : goal.invariant_of-self-2-clause-told
invariant_of-self-2-clause-told g c =
    let self = c.args.self.now in let message = c.in-Ok.message in
    let grown = ap (λ v. v.got) c.in-Ok.ensures.rule.0 in
    let none = sym self.told ∙ not_some self.ending c.in_default.not-Some in
    ap is_some c.ended_by-self.ensures ∙ ended_last message.answer ∙ sym (ap has_last grown ∙ has_last_push (got_in self.pass) message none)

pub invariant_of-self-2-clause-last : goal.invariant_of-self-2-clause-last
invariant_of-self-2-clause-last g c =
    let grown = ap (λ v. v.got) c.in-Ok.ensures.rule.0 in
    c.ended_by-self.ensures ∙ sym (ap ending_in grown ∙ ending_push (got_in c.args.self.now.pass) c.in-Ok.message)

pub returns-clause-gives : goal.returns-clause-gives
returns-clause-gives g c =
    let self = c.args.self.now in let rule = c.in-Ok.ensures.rule in let got = got_in self.pass in let message = c.in-Ok.message in
    let at : message.place ≡ length got = last_place 0 got message rule.1 ∙ zero-add (length got) in
    let grown = ap (λ v. v.got) rule.0 in
    let none = sym self.told ∙ not_some self.ending c.in_default.not-Some in
    (refl, inr (inl (none, grown ∙ ap (λ n. got ++ placed message.answer n ∷ []) at, subst (IsFeed 0) (sym grown) rule.1)))
