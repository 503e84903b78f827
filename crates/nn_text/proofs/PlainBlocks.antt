-- Bytes of a room that are plain, looked at in blocks of 16; and names that are written into it.
use Rattle.std.proofs.Common.{◌≡◌, ℕ, ◌+◌, ◌-◌, ◌<◌, ◌≤◌, ◌==◌, Bool, true, cond, List, [], ◌∷◌, ◌++◌, map, length, take, drop, get_or, sym, ap, ◌∙◌, arith, take-take}
use Rattle.std.specs.Prelude.{flat_map}
use Rattle.std.specs.List.{list_all, prefix_len}
use Rattle.std.proofs.lemmas.List.{drop-take, drop-drop, take_all, take_more, flat_map_more}
use lib.Count.{count_trailing_zeros}
use lib.Lanes.{mask_l}
use Rattle.nn_bytes.specs.Runs.{fails}
use Rattle.nn_bytes.proofs.Bytewise.{run_before_failing}
use Rattle.nn_bytes.proofs.PrintableRuns.{run_passes, halves, both_halves}

-- a block of which no byte fails
pub block_passes : (p : ℕ → Bool) (xs : List ℕ) (m : ℕ) → length xs ≡ 16 → m ≡ mask_l (map (fails p) xs) → m ≡ 0 → list_all p xs ≡ true
block_passes p xs m long is none =
    let run : 16 ≡ prefix_len p xs = ap (λ k. cond (k == 0) 16 (count_trailing_zeros 64 m)) (sym none) ∙ run_before_failing p xs m long is in
    ap (list_all p) (sym (take_all (prefix_len p xs) xs (omega (arith, run, long)))) ∙ run_passes p xs

-- behind bytes that pass
pub passes_further : (p : ℕ → Bool) (d : List ℕ) (start at : ℕ) → start ≤ at → list_all p (take (at - start) (drop start d)) ≡ true → list_all p (take 16 (drop at d)) ≡ true
    → list_all p (take (at + 16 - start) (drop start d)) ≡ true
passes_further p d start at order front block =
    let n = at - start in
    let xs = drop start d in
    let more : at + 16 - start ≡ n + 16 = omega (arith, order) in
    let whole : start + n ≡ at = omega (arith, order) in
    let there : drop n xs ≡ drop at d = drop-drop n start d ∙ ap (λ k. drop k d) whole in
    ap (λ k. list_all p (take k xs)) more
    ∙ both_halves p (take (n + 16) xs) n (ap (list_all p) (take-take n (n + 16) xs (omega arith)) ∙ front) (ap (list_all p) (drop-take n 16 xs ∙ ap (take 16) there) ∙ block)

-- and so do fewer of them
pub passes_to : (p : ℕ → Bool) (xs : List ℕ) (n m : ℕ) → n ≤ m → list_all p (take m xs) ≡ true → list_all p (take n xs) ≡ true
passes_to p xs n m less all = ap (list_all p) (sym (take-take n m xs less)) ∙ (halves p (take m xs) n all).0

-- one name more
pub one_more_name : {X : Type 0} (f : X → List ℕ) (xs : List X) (i : ℕ) (d : X) (u e n : ℕ) (room now next : List ℕ) → i < length xs
    → take e now ≡ take u room ++ flat_map f (take i xs) → take n next ≡ take e now ++ f (get_or xs i d) → take n next ≡ take u room ++ flat_map f (take (i + 1) xs)
one_more_name f xs i d u e n room now next within so_far more =
    more ∙ ap (λ l. l ++ f (get_or xs i d)) so_far ∙ flat_map_more f (take u room) (take i xs) (get_or xs i d) ∙ ap (λ l. take u room ++ flat_map f l) (sym (take_more xs i d within))

-- what stands before it stays
pub front_stays : (u e : ℕ) (room now next : List ℕ) → u ≤ e → take u now ≡ take u room → take e next ≡ take e now → take u next ≡ take u room
front_stays u e room now next less so_far same = sym (take-take u e next less) ∙ ap (take u) same ∙ take-take u e now less ∙ so_far
