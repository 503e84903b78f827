-- The first line of a text.
use Rattle.std.proofs.Common.{◌≡◌, ℕ, suc, ◌+◌, ◌-◌, ◌<◌, ◌≤◌, List, [], ◌∷◌, ◌++◌, length, take, drop, get_or, Bool, true, false, cond, not, refl, sym, ap, ◌∙◌, arith, subst}
use Rattle.std.specs.List.{position_or_len}
use Rattle.std.proofs.lemmas.Bool.Decides.{Decides-eqb}
use Rattle.std.proofs.lemmas.List.{take-append-drop, drop_more, drop-drop, drop-take, length-take, take_all}
use Rattle.nn_bytes.specs.Lines.{line_feed}
use Rattle.nn_bytes.specs.Pieces.{is_unbroken}
use Rattle.nn_bytes.proofs.PieceLemmas.{ends, first_unbroken}

one_plus : (k : ℕ) → 1 + k ≡ suc k
one_plus k = omega arith

pub feed_there : (xs : List ℕ) → position_or_len ends xs < length xs → drop (position_or_len ends xs) xs ≡ line_feed ∷ drop (position_or_len ends xs + 1) xs
feed_there [] h = absurd (omega arith)
feed_there (x ∷ xs) h = at (ends x) refl h (feed_there xs)
  where
    at : (t : Bool) → ends x ≡ t → cond (not t) (1 + position_or_len ends xs) 0 < suc (length xs) → (position_or_len ends xs < length xs → drop (position_or_len ends xs) xs ≡ line_feed ∷ drop (position_or_len ends xs + 1) xs)
        → drop (cond (not t) (1 + position_or_len ends xs) 0) (x ∷ xs) ≡ line_feed ∷ drop (cond (not t) (1 + position_or_len ends xs) 0 + 1) (x ∷ xs)
    at true e h k = ap (λ b. b ∷ xs) ((Decides-eqb x line_feed).0 e)
    at false e h k =
        let n = position_or_len ends xs in
        let later : (1 + n) + 1 ≡ suc (n + 1) = omega arith in
        ap (λ m. drop m (x ∷ xs)) (one_plus n) ∙ k (omega arith) ∙ ap (λ m. line_feed ∷ drop m (x ∷ xs)) (sym later)

rest_of : (buf : List ℕ) (s e at : ℕ) → at < e - s → drop (at + 1) (take (e - s) (drop s buf)) ≡ take (e - (s + (at + 1))) (drop (s + (at + 1)) buf)
rest_of buf s e at less =
    let m = e - (s + (at + 1)) in
    let sum : e - s ≡ (at + 1) + m = omega arith in
    ap (λ n. drop (at + 1) (take n (drop s buf))) sum ∙ drop-take (at + 1) m (drop s buf) ∙ ap (take m) (drop-drop (at + 1) s buf)

-- the window up to its first line feed, and after it
pub cut_window : (bytes buf : List ℕ) (s e at : ℕ) → bytes ≡ take (e - s) (drop s buf) → at ≡ position_or_len ends bytes → at ≤ length bytes → (at ≡ length bytes → ⊥)
    → (is_unbroken (take at bytes) ≡ true) × (bytes ≡ take at bytes ++ line_feed ∷ take (e - (s + (at + 1))) (drop (s + (at + 1)) buf))
cut_window bytes buf s e at is first within some =
    let less : position_or_len ends bytes < length bytes = omega arith in
    let short : at < e - s = omega (arith, ap length is, length-take (e - s) (drop s buf)) in (
      rw first (first_unbroken bytes),
      sym (take-append-drop at bytes) ∙ ap (λ r. take at bytes ++ r)
          (ap (λ n. drop n bytes) first ∙ feed_there bytes less ∙ ap (λ n. line_feed ∷ drop (n + 1) bytes) (sym first) ∙ ap (λ r. line_feed ∷ r) (ap (drop (at + 1)) is ∙ rest_of buf s e at short)),
    )

pub all_window : (bytes : List ℕ) (at : ℕ) → at ≡ position_or_len ends bytes → at ≡ length bytes → is_unbroken bytes ≡ true
all_window bytes at first all = subst (λ bs. is_unbroken bs ≡ true) (take_all (position_or_len ends bytes) bytes (omega arith)) (first_unbroken bytes)

-- the first byte of a window
pub first_ahead : (buf : List ℕ) (s e b : ℕ) → s < e → e ≤ length buf → b ≡ get_or buf s b → (rest : List ℕ) × (take (e - s) (drop s buf) ≡ b ∷ rest)
first_ahead buf s e b less within is =
    let one : e - s ≡ suc (e - (s + 1)) = omega arith in (
      take (e - (s + 1)) (drop (s + 1) buf),
      ap (take (e - s)) (drop_more buf s b (omega arith)) ∙ ap (λ n. take n (get_or buf s b ∷ drop (s + 1) buf)) one ∙ ap (λ x. x ∷ take (e - (s + 1)) (drop (s + 1) buf)) (sym is),
    )

pub some_ahead : (buf : List ℕ) (s e : ℕ) → 0 < length (take (e - s) (drop s buf)) → s < e
some_ahead buf s e some = omega (arith, length-take (e - s) (drop s buf))
