-- Threads that are started one after another, for workers that are taken from the end of a list.
use Rattle.std.specs.Prelude.{drop, reverse}
use Rattle.std.specs.List.{AllZip}
use Rattle.std.specs.declared.thread.PromisedHandle.{PromisedHandle}
use Rattle.std.proofs.Common.{◌≡◌, ℕ, ◌+◌, ◌<◌, ◌≤◌, List, [], ◌∷◌, ◌++◌, length, length-append, get_or, refl, sym, ap, ◌∙◌, subst, arith}
use Rattle.std.proofs.Math.Seq.{drop-append-add}
use Rattle.std.proofs.lemmas.List.{get_or_append_left, reverse-append}
use Rattle.nn_lane.specs.Ends.{Reporter}
use Rattle.nn_drive.specs.Driven.{IsPromised}
use Rattle.nn_drive.specs.Served.{AreStarted}
use Rattle.nn_drive.specs.declared.driving.WorkerExit.{WorkerExit}
use Rattle.nn_drive.specs.declared.driving.WorkerPromise.{WorkerPromise}
use Rattle.nn_drive.proofs.Meets.{zip_at, zip_length}

-- one was taken from the end
pub popped : {A : Type 0} (xs ys : List A) (x : A) → xs ≡ ys ++ x ∷ [] → reverse xs ≡ x ∷ reverse ys
popped xs ys x e = ap reverse e ∙ reverse-append ys (x ∷ [])

-- none was started, and all come back
pub none_started : {S : Type 0} (workers : List (S × Reporter)) → AreStarted workers [] workers
none_started workers = ((omega arith, λ i w h l. absurd (omega (arith, l))), (0, omega arith, refl))

module _ {S : Type 0} (workers begun : List (S × Reporter)) (handles : List (PromisedHandle (WorkerExit S) (WorkerPromise S))) (each : AllZip IsPromised begun handles) where
  started : (k : ℕ) (others back : List (S × Reporter)) → k ≤ 1 → workers ≡ begun ++ others → back ≡ drop k others → AreStarted workers handles back
  started k others back few e is =
      let many = zip_length IsPromised begun handles each in
      let size = ap length e ∙ length-append begun others in (
        (
          omega (arith, many, size),
          λ i w h l.
              let below : i < length begun = omega (arith, l, many) in
              subst (λ p. IsPromised p (get_or handles i h)) (sym (ap (λ ws. get_or ws i w) e ∙ get_or_append_left begun others w i below)) (zip_at IsPromised begun handles each i w h below),
        ),
        (k, few, is ∙ sym (ap (λ n. drop (n + k) workers) (sym many) ∙ ap (drop (length begun + k)) e ∙ drop-append-add begun others k)),
      )

  -- all others come back
  pub others_back : (others : List (S × Reporter)) → workers ≡ begun ++ others → AreStarted workers handles others
  others_back others e = started 0 others others (omega arith) e refl

  -- all but the first of the others
  pub one_refused : (x : S × Reporter) (others : List (S × Reporter)) → workers ≡ begun ++ x ∷ others → AreStarted workers handles others
  one_refused x others e = started 1 (x ∷ others) others (omega arith) e refl
