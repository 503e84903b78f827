-- What is free about a block is taken up one by one.
use Rattle.std.proofs.Common.{◌≡◌, ℕ, Bool, false, List, [], ◌∷◌, ◌++◌, Some, None, refl, sym, subst, ◌∙◌}
use Rattle.std.specs.List.{list_any}
use Rattle.nn_types.specs.declared.report.Message.{Message}
use Rattle.nn_types.specs.declared.status.Status.{Status}
use Rattle.nn_types.specs.declared.event.Cause.TheVariants.{Due}
use Rattle.nn_model.specs.History.{History, processed}
use Rattle.nn_postponed.specs.Release.{due_at, first_free, without_free}
use Rattle.nn_postponed.proofs.Frees.{any_without}
use Rattle.nn_postponed.proofs.Steps.{none_left}
use Rattle.nn_replicas.specs.Table.{Replicas}
use Rattle.nn_shadow.specs.Rounds.{TakesBlock, FillsBlock, LeavesOthers}
use Rattle.nn_shadow.specs.Steps.{message_taken, HavePlaces}
use Rattle.nn_shadow.proofs.Filling.{fill_goes_on, still_placed, first_is_in}
use Rattle.nn_shadow.proofs.Quiet.{others_kept}
use Rattle.nn_shadow.proofs.Turns.{block_goes_on, takes_none}

-- what was done about a block so far
pub record SoFar (block : ℕ) (status : Status) (h0 : History) (r0 : List Message) (t0 : Replicas) (h1 : History) (r1 : List Message) (t1 : Replicas) : Type 0 where
  pub takes : TakesBlock block status h0 r0 h1 r1
  pub fills : FillsBlock block status t0 r0 t1 r1
  pub fewer : (p : Message → Bool) → list_any p r0 ≡ false → list_any p r1 ≡ false
  pub others : LeavesOthers block r0 r1
  pub placed : HavePlaces t1 r1

module _ {block : ℕ} {status : Status} {h0 : History} {r0 : List Message} {t0 : Replicas} where
  one_more : {h1 : History} {r1 : List Message} {t1 : Replicas} {m : Message} → SoFar block status h0 r0 t0 h1 r1 t1 → first_free (due_at block status) [] r1 ≡ Some m →
      SoFar block status h0 r0 t0 (h1 ++ processed Due m ∷ []) (without_free (due_at block status) [] r1) (message_taken t1 m)
  one_more {h1 = h1} {r1 = r1} {t1 = t1} {m = m} so is =
      let rest = without_free (due_at block status) [] r1 in
      record {
        takes = block_goes_on block status h0 r0 h1 r1 (h1 ++ processed Due m ∷ []) rest m (first_free (due_at block status) [] r1) so.takes refl is refl refl;
        fills = fill_goes_on block status h0 h1 t0 t1 r0 r1 rest m (first_free (due_at block status) [] r1) so.takes so.fills refl is refl;
        fewer = λ p none. any_without p (due_at block status) [] r1 (so.fewer p none);
        others = λ p apart none. others_kept p block status apart [] r1 (so.others p apart none);
        placed = still_placed (due_at block status) t1 r1 rest m refl (so.placed m (first_is_in (due_at block status) r1 m is)) so.placed;
      }

  pub one_taken : {h1 h2 : History} {r1 r2 : List Message} {t1 t2 : Replicas} {m : Message} → SoFar block status h0 r0 t0 h1 r1 t1 → first_free (due_at block status) [] r1 ≡ Some m →
      h2 ≡ h1 ++ processed Due m ∷ [] → r2 ≡ without_free (due_at block status) [] r1 → t2 ≡ message_taken t1 m → SoFar block status h0 r0 t0 h2 r2 t2
  one_taken {h1 = h1} {h2 = h2} {r1 = r1} {r2 = r2} {t1 = t1} {t2 = t2} {m = m} so is told left taken =
      let rest = without_free (due_at block status) [] r1 in
      subst (λ h. SoFar block status h0 r0 t0 h r2 t2) (sym told) (subst (λ l. SoFar block status h0 r0 t0 (h1 ++ processed Due m ∷ []) l t2) (sym left)
      (subst (SoFar block status h0 r0 t0 (h1 ++ processed Due m ∷ []) rest) (sym taken) (one_more so is)))

  -- nothing is free any more
  pub none_free : {h1 : History} {r1 r2 : List Message} {t1 : Replicas} → SoFar block status h0 r0 t0 h1 r1 t1 → first_free (due_at block status) [] r1 ≡ None →
      r2 ≡ without_free (due_at block status) [] r1 → SoFar block status h0 r0 t0 h1 r2 t1 × (first_free (due_at block status) [] r2 ≡ None) × (r2 ≡ r1)
  none_free {h1 = h1} {r1 = r1} {r2 = r2} {t1 = t1} so none left =
      let same = left ∙ none_left (due_at block status) [] r1 none in (
        subst (λ l. SoFar block status h0 r0 t0 h1 l t1) (sym same) so,
        subst (λ l. first_free (due_at block status) [] l ≡ None) (sym same) none,
        same,
      )

  pub nothing_done : HavePlaces t0 r0 → SoFar block status h0 r0 t0 h0 r0 t0
  nothing_done placed = record {
    takes = λ due agrees order low. (takes_none due h0 r0 order, low);
    fills = λ due agrees order low. refl;
    fewer = λ p none. none;
    others = λ p apart none. none;
    placed = placed;
  }
