-- A log by place: which transaction the next event applies, and what is due at one moment and at a later one.
use Rattle.std.proofs.Common.{◌≡◌, ℕ, zero, suc, ◌+◌, ◌≤◌, true, List, [], ◌∷◌, ◌++◌, length, take, map, Some, None, refl, sym, ap, subst, ◌∙◌, arith, add-one}
use Rattle.std.specs.Prelude.{◌==◌, find, slice_get}
use Rattle.std.proofs.lemmas.Bool.{eq-eqb, ne_eqb, cond-true, cond-false}
use Rattle.nn_types.specs.declared.tx.Tx.{Tx}
use Rattle.nn_model.specs.Namespace.{Namespace}
use Rattle.nn_model.specs.Apply.{effect, refusal}
use Rattle.nn_model.specs.Status.{due_in}
use Rattle.nn_model.specs.Log.{namespace_after, IsLog}

-- what is due after some of the transactions is due after more of them
abbrev pub DueAlong : Namespace → List Tx → Type 0
DueAlong start txs = (k l id stamp : ℕ) → k ≤ l → due_in (namespace_after start (take k txs)) id stamp ≡ true →
    due_in (namespace_after start (take l txs)) id stamp ≡ true

pub namespace_after-push : (n : Namespace) (txs : List Tx) (t : Tx) → namespace_after n (txs ++ t ∷ []) ≡ effect (namespace_after n txs) t.edit
namespace_after-push n [] t = refl
namespace_after-push n (tx ∷ txs) t = namespace_after-push (effect n tx.edit) txs t

txid_at : (n : Namespace) (base : ℕ) (txs : List Tx) (k : ℕ) (t : Tx) → IsLog n base txs → slice_get txs k ≡ Some t → t.txid ≡ base + suc k
txid_at n base [] k t log at = absurd (cc)
txid_at n base (x ∷ txs) zero t log at = let e : x ≡ t = cc in ap (λ y. y.txid) (sym e) ∙ log.0
txid_at n base (x ∷ txs) (suc k) t log at = omega (arith, txid_at (effect n x.edit) x.txid txs k t log.2 at, log.0)

pub found_tx : (n : Namespace) (base : ℕ) (txs : List Tx) (k : ℕ) (t : Tx) → IsLog n base txs → slice_get txs k ≡ Some t →
    find (λ tx. tx.txid == t.txid) txs ≡ Some t
found_tx n base [] k t log at = absurd (cc)
found_tx n base (x ∷ txs) zero t log at =
    let e : x ≡ t = cc in cond-true (x.txid == t.txid) (Some x) (find (λ tx. tx.txid == t.txid) txs) (eq-eqb _ _ (ap (λ y. y.txid) e)) ∙ at
found_tx n base (x ∷ txs) (suc k) t log at =
    let later : t.txid ≡ x.txid + suc k = txid_at (effect n x.edit) x.txid txs k t log.2 at in
    cond-false (x.txid == t.txid) (Some x) (find (λ tx. tx.txid == t.txid) txs) (ne_eqb _ _ (λ same. omega arith))
    ∙ found_tx (effect n x.edit) x.txid txs k t log.2 at

pub applies_at : (n : Namespace) (base : ℕ) (txs : List Tx) (k : ℕ) (t : Tx) → IsLog n base txs → slice_get txs k ≡ Some t →
    refusal (namespace_after n (take k txs)) t.edit ≡ None
applies_at n base [] k t log at = absurd (cc)
applies_at n base (x ∷ txs) zero t log at = let e : x ≡ t = cc in subst (λ y. refusal n y.edit ≡ None) e log.1
applies_at n base (x ∷ txs) (suc k) t log at = applies_at (effect n x.edit) x.txid txs k t log.2 at

pub take_at : (txs : List Tx) (k : ℕ) (t : Tx) → slice_get txs k ≡ Some t → take (k + 1) txs ≡ take k txs ++ t ∷ []
take_at txs k t at = ap (λ i. take i txs) (add-one k) ∙ go txs k at
  where
    go : (xs : List Tx) (i : ℕ) → slice_get xs i ≡ Some t → take (suc i) xs ≡ take i xs ++ t ∷ []
    go [] i at = absurd (cc)
    go (x ∷ xs) zero at = let e : x ≡ t = cc in ap (λ y. y ∷ []) e
    go (x ∷ xs) (suc i) at = ap (λ l. x ∷ l) (go xs i at)

-- the transaction of the next txid that was applied
pub next_tx : (txs : List Tx) (done : List ℕ) (txid : ℕ) (rest : List ℕ) → done ++ txid ∷ rest ≡ map (λ tx. tx.txid) txs →
    (t : Tx) × (slice_get txs (length done) ≡ Some t) × (t.txid ≡ txid)
next_tx [] [] txid rest is = absurd (cc)
next_tx [] (d ∷ done) txid rest is = absurd (cc)
next_tx (x ∷ txs) [] txid rest is = let e : txid ≡ x.txid = cc in (x, refl, sym e)
next_tx (x ∷ txs) (d ∷ done) txid rest is = let e : done ++ txid ∷ rest ≡ map (λ tx. tx.txid) txs = cc in next_tx txs done txid rest e
