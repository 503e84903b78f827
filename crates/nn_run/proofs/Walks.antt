-- The walk, transaction by transaction.
use Rattle.std.proofs.Common.{◌≡◌, ◌≢◌, ℕ, cond, ◌+◌, ◌≤◌, ◌<◌, List, [], ◌∷◌, ◌++◌, Result, Ok, Err, refl, sym, ap, ◌∙◌, append_assoc, append-nil}
use Rattle.std.proofs.lemmas.Bool.{eq-eqb, ne_eqb, le-ltb, lt-ltb}
use Rattle.nn_types.specs.declared.tx.Tx.{Tx}
use Rattle.nn_types.specs.declared.edit_fault.EditFault.{EditFault}
use Rattle.nn_model.specs.Namespace.{Namespace}
use Rattle.nn_model.specs.Apply.{applied}
use Rattle.nn_model.specs.Log.{counted}
use Rattle.nn_segment.specs.LogEnd.{LogStop, refused, disorder, go_on, end_of_txs, and_then}
use Rattle.nn_run.specs.Walk.{end_of_parts, end_within, HasWalked, HasStopped, Fits}

pub begins : (base : ℕ) (start : Namespace) → HasWalked base start [] [] base start
begins base start = λ later. refl

-- a part that begins no higher than the next transaction
opens : (last : ℕ) (n : Namespace) (tx : Tx) (back : List Tx) (later : List (List Tx)) → tx.txid ≤ last + 1
    → end_of_parts last n ((tx ∷ back) ∷ later) ≡ end_within last n (tx ∷ back) later
unfolding end_of_parts
opens last n tx back later low =
    ap (λ b. cond b (Err (record { cause = disorder; txid = last + 1 })) (end_within last n (tx ∷ back) later)) (le-ltb (last + 1) tx.txid low)

-- before the next transaction
abbrev Before : ℕ → Namespace → List (List Tx) → List Tx → ℕ → Namespace → Tx → Type 0
Before base start parts prefix last n tx =
    (back : List Tx) (later : List (List Tx)) → end_of_parts base start (parts ++ (prefix ++ tx ∷ back) ∷ later) ≡ end_within last n (tx ∷ back) later

before : (base : ℕ) (start : Namespace) (parts : List (List Tx)) (prefix : List Tx) (last : ℕ) (n : Namespace) (tx : Tx)
    → HasWalked base start parts prefix last n → Fits prefix last tx → Before base start parts prefix last n tx
before base start parts [] last n tx h low = λ back later. h ((tx ∷ back) ∷ later) ∙ opens last n tx back later low
before base start parts (t ∷ prefix) last n tx h fits = λ back later. h (tx ∷ back) later

-- behind it: what is said of all that come behind
behind : (base : ℕ) (start : Namespace) (parts : List (List Tx)) (prefix back : List Tx) (tx : Tx) (later : List (List Tx))
    → end_of_parts base start (parts ++ ((prefix ++ tx ∷ []) ++ back) ∷ later) ≡ end_of_parts base start (parts ++ (prefix ++ tx ∷ back) ∷ later)
behind base start parts prefix back tx later = ap (λ txs. end_of_parts base start (parts ++ txs ∷ later)) (append_assoc prefix (tx ∷ []) back)

walked : (base : ℕ) (start : Namespace) (parts : List (List Tx)) (prefix : List Tx) (tx : Tx) (last : ℕ) (n : Namespace)
    → ((back : List Tx) (later : List (List Tx)) → end_of_parts base start (parts ++ ((prefix ++ tx ∷ []) ++ back) ∷ later) ≡ end_within last n back later)
    → HasWalked base start parts (prefix ++ tx ∷ []) last n
walked base start parts [] tx last n h = h
walked base start parts (t ∷ prefix) tx last n h = h

stopped_in : (base : ℕ) (start : Namespace) (parts : List (List Tx)) (prefix : List Tx) (tx : Tx) (stop : LogStop)
    → ((back : List Tx) (later : List (List Tx)) → end_of_parts base start (parts ++ ((prefix ++ tx ∷ []) ++ back) ∷ later) ≡ Err stop)
    → HasStopped base start parts (prefix ++ tx ∷ []) stop
stopped_in base start parts [] tx stop h = h
stopped_in base start parts (t ∷ prefix) tx stop h = h

-- ---- one transaction

not_counted : (last : ℕ) (n : Namespace) (tx : Tx) (back : List Tx) (later : List (List Tx)) → tx.txid ≢ last + 1
    → end_within last n (tx ∷ back) later ≡ end_within last n back later
not_counted last n tx back later other =
    ap (λ b. and_then (end_of_txs last n (cond b (tx ∷ counted tx.txid back) (counted last back))) (λ end. end_of_parts end.last end.namespace later)) (ne_eqb tx.txid (last + 1) other)

is_counted : (last : ℕ) (n : Namespace) (tx : Tx) (back : List Tx) (later : List (List Tx)) → tx.txid ≡ last + 1
    → end_within last n (tx ∷ back) later
    ≡ and_then (go_on tx.txid (applied n tx.edit) (λ next. end_of_txs tx.txid next (counted tx.txid back))) (λ end. end_of_parts end.last end.namespace later)
unfolding end_of_txs
is_counted last n tx back later next =
    ap (λ b. and_then (end_of_txs last n (cond b (tx ∷ counted tx.txid back) (counted last back))) (λ end. end_of_parts end.last end.namespace later)) (eq-eqb tx.txid (last + 1) next)

taken : (last : ℕ) (n : Namespace) (tx : Tx) (back : List Tx) (later : List (List Tx)) (r : Result Namespace EditFault) → tx.txid ≡ last + 1 → applied n tx.edit ≡ r
    → end_within last n (tx ∷ back) later ≡ and_then (go_on tx.txid r (λ next. end_of_txs tx.txid next (counted tx.txid back))) (λ end. end_of_parts end.last end.namespace later)
taken last n tx back later r next does =
    is_counted last n tx back later next
    ∙ ap (λ q. and_then (go_on tx.txid q (λ after. end_of_txs tx.txid after (counted tx.txid back))) (λ end. end_of_parts end.last end.namespace later)) does

pub passes : (base : ℕ) (start : Namespace) (parts : List (List Tx)) (prefix : List Tx) (last : ℕ) (n : Namespace) (tx : Tx)
    → HasWalked base start parts prefix last n → Fits prefix last tx → tx.txid ≢ last + 1 → HasWalked base start parts (prefix ++ tx ∷ []) last n
passes base start parts prefix last n tx h fits other = walked base start parts prefix tx last n
    (λ back later. behind base start parts prefix back tx later ∙ before base start parts prefix last n tx h fits back later ∙ not_counted last n tx back later other)

pub applies : (base : ℕ) (start : Namespace) (parts : List (List Tx)) (prefix : List Tx) (last : ℕ) (n m : Namespace) (tx : Tx)
    → HasWalked base start parts prefix last n → Fits prefix last tx → tx.txid ≡ last + 1 → applied n tx.edit ≡ Ok m
    → HasWalked base start parts (prefix ++ tx ∷ []) tx.txid m
applies base start parts prefix last n m tx h fits next does = walked base start parts prefix tx tx.txid m
    (λ back later. behind base start parts prefix back tx later ∙ before base start parts prefix last n tx h fits back later ∙ taken last n tx back later (Ok m) next does)

pub refuses : (base : ℕ) (start : Namespace) (parts : List (List Tx)) (prefix : List Tx) (last : ℕ) (n : Namespace) (tx : Tx) (fault : EditFault)
    → HasWalked base start parts prefix last n → Fits prefix last tx → tx.txid ≡ last + 1 → applied n tx.edit ≡ Err fault
    → HasStopped base start parts (prefix ++ tx ∷ []) (record { cause = refused fault; txid = tx.txid })
refuses base start parts prefix last n tx fault h fits next does = stopped_in base start parts prefix tx (record { cause = refused fault; txid = tx.txid })
    (λ back later. behind base start parts prefix back tx later ∙ before base start parts prefix last n tx h fits back later ∙ taken last n tx back later (Err fault) next does)

gap : (last : ℕ) (n : Namespace) (tx : Tx) (back : List Tx) (later : List (List Tx)) → last + 1 < tx.txid
    → end_of_parts last n ((tx ∷ back) ∷ later) ≡ Err (record { cause = disorder; txid = last + 1 })
unfolding end_of_parts
gap last n tx back later high =
    ap (λ b. cond b (Err (record { cause = disorder; txid = last + 1 })) (end_within last n (tx ∷ back) later)) (lt-ltb (last + 1) tx.txid high)

pub stops : (base : ℕ) (start : Namespace) (parts : List (List Tx)) (last : ℕ) (n : Namespace) (tx : Tx)
    → HasWalked base start parts [] last n → last + 1 < tx.txid
    → HasStopped base start parts (tx ∷ []) (record { cause = disorder; txid = last + 1 })
stops base start parts last n tx h high = λ back later. h ((tx ∷ back) ∷ later) ∙ gap last n tx back later high

-- ---- a part ends

nothing_left : (last : ℕ) (n : Namespace) (later : List (List Tx)) → end_within last n [] later ≡ end_of_parts last n later
unfolding end_of_txs
nothing_left last n later = refl

part_behind : (base : ℕ) (start : Namespace) (parts : List (List Tx)) (txs : List Tx) (later : List (List Tx))
    → end_of_parts base start ((parts ++ txs ∷ []) ++ later) ≡ end_of_parts base start (parts ++ (txs ++ []) ∷ later)
part_behind base start parts txs later =
    ap (end_of_parts base start) (append_assoc parts (txs ∷ []) later)
    ∙ ap (λ part. end_of_parts base start (parts ++ part ∷ later)) (sym (append-nil txs))

pub ends_part : (base : ℕ) (start : Namespace) (parts : List (List Tx)) (t : Tx) (prefix : List Tx) (last : ℕ) (n : Namespace)
    → HasWalked base start parts (t ∷ prefix) last n → HasWalked base start (parts ++ (t ∷ prefix) ∷ []) [] last n
ends_part base start parts t prefix last n h = λ later. part_behind base start parts (t ∷ prefix) later ∙ h [] later ∙ nothing_left last n later

pub stays : (base : ℕ) (start : Namespace) (parts : List (List Tx)) (prefix : List Tx) (stop : LogStop) (tx : Tx)
    → HasStopped base start parts prefix stop → HasStopped base start parts (prefix ++ tx ∷ []) stop
stays base start parts [] stop tx h = λ back later. h ((tx ∷ back) ∷ later)
stays base start parts (t ∷ prefix) stop tx h = λ back later. behind base start parts (t ∷ prefix) back tx later ∙ h (tx ∷ back) later

pub stays_behind : (base : ℕ) (start : Namespace) (parts : List (List Tx)) (t : Tx) (prefix : List Tx) (stop : LogStop)
    → HasStopped base start parts (t ∷ prefix) stop → HasStopped base start (parts ++ (t ∷ prefix) ∷ []) [] stop
stays_behind base start parts t prefix stop h = λ later. part_behind base start parts (t ∷ prefix) later ∙ h [] later

-- ---- the end

none_later : (last : ℕ) (n : Namespace) → end_of_parts last n [] ≡ Ok (record { last = last; namespace = n })
unfolding end_of_parts
none_later last n = refl

pub ended : (base : ℕ) (start : Namespace) (parts : List (List Tx)) (last : ℕ) (n : Namespace)
    → HasWalked base start parts [] last n → end_of_parts base start parts ≡ Ok (record { last = last; namespace = n })
ended base start parts last n h = ap (end_of_parts base start) (sym (append-nil parts)) ∙ h [] ∙ none_later last n

pub stopped : (base : ℕ) (start : Namespace) (parts : List (List Tx)) (stop : LogStop)
    → HasStopped base start parts [] stop → end_of_parts base start parts ≡ Err stop
stopped base start parts stop h = ap (end_of_parts base start) (sym (append-nil parts)) ∙ h []
