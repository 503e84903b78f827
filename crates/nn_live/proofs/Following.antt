-- Transactions that were followed one after another.
use Rattle.std.proofs.Common.{◌≡◌, ℕ, List, [], ◌∷◌, ◌++◌, true, false, None, Some, Option, cond, refl, sym, subst, ap, ap₂, ◌∙◌, append_assoc, append-nil}
use Rattle.std.specs.Prelude.{is_none}
use Rattle.std.proofs.lemmas.List.{append_cancel_left}
use Rattle.nn_types.specs.declared.tx.Tx.{Tx}
use Rattle.nn_shadow.specs.declared.fault.ApplyFault.{ApplyFault}
use Rattle.nn_shadow.specs.Contents.{standby_of}
use Rattle.nn_shadow.specs.Refusals.{apply_refusal}
use Rattle.nn_live.specs.Live.{LiveSetup, ServiceState, applies, follows}
use Rattle.nn_live.specs.Serving.{Service, IsAtService, FollowsStep, takes_tx}
use Rattle.nn_live.proofs.Applying.{same_apply_refusal}
use Rattle.nn_live.proofs.Options.{none_if, some_unless}

-- it came from there to here, with this text, and of the transactions these are left; where its history is not told, that is no text
abbrev pub Came : Service → Service → List Tx → List Tx → List ℕ → Type 0
Came first now txs rest text = (asked : LiveSetup) (s : ServiceState) → IsAtService asked first s
    → (t : ServiceState) × IsAtService asked now t × (follows asked txs s ≡ follows asked rest t) × (t.written ≡ s.written ++ text) × (asked.history ≡ false → text ≡ [])

pub none_came : (x : Service) (txs : List Tx) → Came x x txs txs []
none_came x txs asked s i = (s, i, refl, sym (append-nil s.written), λ silent. refl)

module _ (first x y : Service) (txs later : List Tx) (tx : Tx) (text more : List ℕ) (made : FollowsStep (takes_tx tx) x y more) (came : Came first x txs (tx ∷ later) text) where
  at_tx : LiveSetup → ServiceState → (ServiceState → ServiceState) → Option ApplyFault → ServiceState
  at_tx asked t rest o = applies asked tx o rest t

  told_nothing : (asked : LiveSetup) (written told : List ℕ) → asked.history ≡ false → written ++ cond asked.history told [] ≡ written
  told_nothing asked written told silent = ap (λ b. written ++ cond b told []) silent ∙ append-nil written

  written : (asked : LiveSetup) (s t : ServiceState) → IsAtService asked x t → t.written ≡ s.written ++ text → (takes_tx tx asked t).written ≡ s.written ++ (text ++ more)
  written asked s t i e = made.written asked t i ∙ ap (λ w. w ++ more) e ∙ append_assoc s.written text more

  pub one_more : true ≡ is_none (apply_refusal x.shadow.phase (standby_of x.shadow) tx) → Came first y txs later (text ++ more)
  unfolding at_tx
  one_more fits asked s i =
      let c = came asked s i in
      let t = c.0 in
      let none : apply_refusal t.phase t.standby tx ≡ None = sym (same_apply_refusal asked x t tx c.1) ∙ none_if _ fits in (
        takes_tx tx asked t,
        made.at asked t c.1,
        c.2 ∙ ap (at_tx asked t (λ u. follows asked later u)) none ∙ sym (ap (λ o. follows asked later (at_tx asked t (λ u. u) o)) none),
        written asked s t c.1 c.3,
        λ silent. (
            let told : t.written ++ [] ≡ t.written ++ more = append-nil t.written ∙ sym (told_nothing asked t.written _ silent) ∙ sym (ap (λ o. (at_tx asked t (λ u. u) o).written) none) ∙ made.written asked t c.1 in
            ap₂ (λ a b. a ++ b) (c.4 silent) (sym (append_cancel_left t.written [] more told))
            ),
      )

  pub last_one : false ≡ is_none (apply_refusal x.shadow.phase (standby_of x.shadow) tx) → FollowsStep (λ asked s. follows asked txs s) first y (text ++ more)
  unfolding at_tx
  last_one refused =
      let f = some_unless _ refused in
      let ends : (asked : LiveSetup) (s : ServiceState) (i : IsAtService asked first s) → follows asked txs s ≡ takes_tx tx asked (came asked s i).0 = λ asked s i.
      (let c = came asked s i in
      let t = c.0 in
      let some : apply_refusal t.phase t.standby tx ≡ Some f.0 = sym (same_apply_refusal asked x t tx c.1) ∙ f.1 in
      c.2 ∙ ap (at_tx asked t (λ u. follows asked later u)) some ∙ sym (ap (at_tx asked t (λ u. u)) some)) in
      record {
        at = λ asked s i. subst (IsAtService asked y) (sym (ends asked s i)) (made.at asked (came asked s i).0 (came asked s i).1);
        written = λ asked s i. ap (λ (u : ServiceState). u.written) (ends asked s i) ∙ written asked s (came asked s i).0 (came asked s i).1 (came asked s i).3;
      }

pub all_came : (first x : Service) (txs : List Tx) (text : List ℕ) → Came first x txs [] text → FollowsStep (λ asked s. follows asked txs s) first x text
all_came first x txs text came = record {
  at = λ asked s i. subst (IsAtService asked x) (sym (came asked s i).2) (came asked s i).1;
  written = λ asked s i. ap (λ (u : ServiceState). u.written) (came asked s i).2 ∙ (came asked s i).3;
}
