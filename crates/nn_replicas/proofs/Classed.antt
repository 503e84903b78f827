-- Replicas counted by class, one cell after another.
use Rattle.std.proofs.Common.{◌≡◌, ℕ, ◌+◌, ◌<◌, ◌^◌, Fits, w64, Bool, true, false, List, [], ◌∷◌, ◌++◌, take, length, get_or, Option, Some, None, count_by, refl, sym, ap, ◌∙◌, arith}
use Rattle.std.specs.Option.{option_map}
use Rattle.std.proofs.lemmas.List.{take_more, length-take-le}
use Rattle.std.proofs.lemmas.List.Sums.{sum_by_push, count_by-le-length}
use Rattle.nn_types.specs.declared.block.Block.{Block}
use Rattle.nn_types.specs.declared.replica.Replica.{Replica}
use Rattle.nn_types.specs.declared.replica.Class.{Class}
use Rattle.nn_types.specs.declared.replica.Class.TheVariants.{Stale, Ahead, Building, Live, WrongLength}
use Rattle.nn_model.specs.Counts.{class_of, is_live, is_live_class}
use Rattle.nn_replicas.specs.declared.entry.Cell.{Cell}
use Rattle.nn_replicas.specs.Entry.{live_cells}
use Rattle.nn_replicas.specs.Figures.{is_class, cells_of, one_if}
use mir.Val.{bool_byte}

abbrev pub class_at : Block → ℕ × Cell → Option Class
class_at b c = option_map (λ (r : Replica). class_of r b) c.1.replica

pub byte_if : (n : ℕ) (b : Bool) → n ≡ bool_byte b → n ≡ one_if b
byte_if n true h = h
byte_if n false h = h

-- one more cell
pub one_more : (class : Class) (b : Block) (xs : List (ℕ × Cell)) (i : ℕ) (x : ℕ × Cell) (n : ℕ) → n ≡ cells_of class b (take i xs) → i < length xs → x ≡ get_or xs i x
    → n + one_if (is_class class (class_at b x)) ≡ cells_of class b (take (i + 1) xs)
one_more class b xs i x n h l g =
    let push : cells_of class b (take i xs ++ x ∷ []) ≡ cells_of class b (take i xs) + one_if (is_class class (class_at b x)) = sum_by_push (λ (c : ℕ × Cell). one_if (is_class class (class_at b c))) (take i xs) x in
    let taken : cells_of class b (take i xs ++ x ∷ []) ≡ cells_of class b (take (i + 1) xs) = ap (λ y. cells_of class b (take i xs ++ y ∷ [])) g ∙ ap (cells_of class b) (sym (take_more xs i x l)) in
    omega (arith, h, push, taken)

live_class : (class : Class) → is_class Live (Some class) ≡ is_live_class class
live_class Live = refl
live_class Building = refl
live_class Stale = refl
live_class Ahead = refl
live_class WrongLength = refl

live_replica : (b : Block) (o : Option Replica) → is_class Live (option_map (λ (r : Replica). class_of r b) o) ≡ is_live o b
live_replica b None = refl
live_replica b (Some r) = live_class (class_of r b)

-- the live ones
pub live_are : (b : Block) (cells : List (ℕ × Cell)) → cells_of Live b cells ≡ live_cells b cells
live_are b cells = λ i. count_by (λ (c : ℕ × Cell). live_replica b c.1.replica i) cells

-- no more are counted than cells were looked at
pub one_fits : (class : Class) (b : Block) (xs : List (ℕ × Cell)) (i n : ℕ) → n ≡ cells_of class b (take i xs) → i < length xs → Fits w64 (length xs) → n + 1 < 2 ^ 64
one_fits class b xs i n h l few =
    let most = count_by-le-length (λ (c : ℕ × Cell). is_class class (class_at b c)) (take i xs) in
    let taken = length-take-le i xs (omega (arith, l)) in
    omega (arith, h, most, taken, l, few)
