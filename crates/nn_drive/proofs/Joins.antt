-- One more thread is joined.
use Rattle.std.proofs.Common.{◌≡◌, ℕ, ◌+◌, ◌<◌, Bool, true, false, List, [], ◌∷◌, ◌++◌, Option, Some, None, Result, Ok, Err, length, length-append, get_or, refl, sym, ap, ◌∙◌, subst, arith, below_more, inl, inr}
use Rattle.std.specs.Prelude.{MatchBool, MatchOption, MatchResult, ◌⊎◌}
use Rattle.std.proofs.lemmas.List.{get_or_append_left, get_or_push}
use Rattle.std.specs.declared.thread.PromisedHandle.{PromisedHandle}
use Rattle.nn_types.specs.declared.report.Report.{Report}
use Rattle.nn_types.specs.declared.report.Message.{Message}
use Rattle.nn_lane.specs.Ends.{Reporter, LaneEnd}
use Rattle.nn_lane.specs.declared.fault.Refusal.{Refusal}
use Rattle.nn_lane.specs.declared.fault.Refusal.TheVariants.{Closed, Exhausted, Full}
use Rattle.nn_lane_standby.proofs.Fetched.{any_default}
use Rattle.nn_drive.specs.declared.driving.WorkerExit.{WorkerExit}
use Rattle.nn_drive.specs.declared.driving.WorkerPromise.{WorkerPromise}
use Rattle.nn_drive.specs.Driven.{HasReported, IsTold, IsToldOnly, IsJoined, ToldOne}
use Rattle.nn_drive.specs.Reports.{message_of_report, TakesNoMore}

-- what the flag says of the threads so far, and of this one
abbrev pub TellsOn : {S : Type 0} → Bool → Bool → WorkerExit S → LaneEnd → Type 0
TellsOn was told w e = MatchBool told ((was ≡ true) ⊎ (IsTold w.outcome × (e.closed ≡ false))) ((was ≡ false) × IsToldOnly w e)

none_told : {S : Type 0} (was told : Bool) (w : WorkerExit S) (e : LaneEnd) → TellsOn was told w e → told ≡ false → (was ≡ false) × IsToldOnly w e
none_told was true w e h q = absurd (let z : true ≡ false = q in cc)
none_told was false w e h q = h

one_told : {S : Type 0} (was told : Bool) (w : WorkerExit S) (e : LaneEnd) → TellsOn was told w e → told ≡ true → (was ≡ true) ⊎ (IsTold w.outcome × (e.closed ≡ false))
one_told was true w e h q = h
one_told was false w e h q = absurd (let z : false ≡ true = q in cc)

-- what a reporter answered last, its own model says
told_last : (u : Reporter) (f : Report → Message) (last : Option Report) (size : ℕ) (answer : Result ℕ Refusal) → IsTold answer → MatchResult answer (λ n. (last ≡ None) × (n ≡ size)) (λ e. MatchOption last ⊥ (λ x. TakesNoMore u (f x) e)) → u.told ≡ true
told_last u f last size (Ok _) t h = absurd t
told_last u f last size (Err (Exhausted m)) t h = absurd t
told_last u f last size (Err (Full m n)) t h = absurd t
told_last u f last size (Err (Closed m n)) t h = by_last last h
  where
    by_last : (last : Option Report) → MatchOption last ⊥ (λ x. TakesNoMore u (f x) (Closed m n)) → u.told ≡ true
    by_last None g = absurd g
    by_last (Some x) g = g.2

module _ {S : Type 0} (gives : S → Option Report → S → Type 0) (handles : List (PromisedHandle (WorkerExit S) (WorkerPromise S))) (ends : List LaneEnd) (n : ℕ) (was told : Bool) (w : WorkerExit S)
    (says : (e : LaneEnd) → TellsOn was told w (get_or ends n e)) (h : PromisedHandle (WorkerExit S) (WorkerPromise S)) (here : (d : PromisedHandle (WorkerExit S) (WorkerPromise S)) → get_or handles n d ≡ h)
    (reported : HasReported gives h.promise.0.value h.promise.1.value w) where
  pub joined_more : (rs rs' : List Reporter) → length rs ≡ n → rs' ≡ rs ++ w.reporter ∷ []
      → ((k : ℕ) (d : PromisedHandle (WorkerExit S) (WorkerPromise S)) (e : LaneEnd) (r : Reporter) → k < n → IsJoined gives was (get_or handles k d) (get_or ends k e) (get_or rs k r))
      → (k : ℕ) (d : PromisedHandle (WorkerExit S) (WorkerPromise S)) (e : LaneEnd) (r : Reporter) → k < n + 1 → IsJoined gives told (get_or handles k d) (get_or ends k e) (get_or rs' k r)
  joined_more rs rs' len q before k d e r below =
      subst (λ z. IsJoined gives told (get_or handles k d) (get_or ends k e) (get_or z k r)) (sym q)
      (below_more (λ i. IsJoined gives told (get_or handles i d) (get_or ends i e) (get_or (rs ++ w.reporter ∷ []) i r)) n
      (λ i low. subst (IsJoined gives told (get_or handles i d) (get_or ends i e)) (sym (get_or_append_left rs (w.reporter ∷ []) r i (omega (arith, low, len))))
      (let j = before i d e r low in (j.0, j.1, j.2, λ f. j.3 (none_told was told w (get_or ends n e) (says e) f).0)))
      (subst (IsJoined gives told (get_or handles n d) (get_or ends n e)) (sym (get_or_push rs w.reporter r n len))
      (subst (λ p. IsJoined gives told p (get_or ends n e) w.reporter) (sym (here d)) (w, reported, refl, λ f. (none_told was told w (get_or ends n e) (says e) f).1)))
      k below)

  pub told_more : (rs rs' : List Reporter) → length rs ≡ n → rs' ≡ rs ++ w.reporter ∷ [] → (d : LaneEnd) → n < length ends → (was ≡ true → ToldOne ends rs) → told ≡ true → ToldOne ends rs'
  told_more rs rs' len q d in_ends before t =
      let longer = length-append rs (w.reporter ∷ []) in
      subst (ToldOne ends) (sym q) (elim (one_told was told w (get_or ends n d) (says d) t) [
        | inl b ↦ (
            let o = before b in
            record {
              place = o.place;
              within = omega (arith, o.within, longer);
              told = λ r. ap (λ z. z.told) (get_or_append_left rs (w.reporter ∷ []) r o.place o.within) ∙ o.told r;
              is_open = o.is_open;
            })
        | inr x ↦ record {
          place = n;
          within = omega (arith, len, longer);
          told = λ r. ap (λ z. z.told) (get_or_push rs w.reporter r n len) ∙ told_last w.reporter (message_of_report h.promise.1.value.lane.node w.reporter.sent) reported.1.1 (length reported.1.0) w.outcome x.0 reported.1.4;
          is_open = λ e. ap (λ z. z.closed) (any_default ends n e d in_ends) ∙ x.1;
        }
      ])
