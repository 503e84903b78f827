-- Lists of blocks, and what stands in a text from a place on.
use Rattle.std.proofs.Common.{◌≡◌, ℕ, ◌+◌, ◌-◌, ◌<◌, ◌≤◌, List, [], ◌∷◌, ◌++◌, length, take, drop, get_or, sym, ap, ◌∙◌, arith, lt_of_not-le}
use Rattle.std.proofs.lemmas.List.{take-append-drop, drop-drop, drop_more, get_or_past}
use Rattle.nn_types.specs.declared.block.Block.{Block}
use Rattle.nn_types.specs.Block.{IsBlock, AreBlocks}

-- ---- blocks

pub with_block : (bs : List Block) (b : Block) → AreBlocks bs → IsBlock b → AreBlocks (bs ++ b ∷ [])
with_block [] b are is = (is, tt)
with_block (x ∷ bs) b are is = (are.0, with_block bs b are.1 is)

-- ---- places of a text

-- What stands between two places, and what comes after it.
pub between_places : (d : List ℕ) (from to : ℕ) → from ≤ to → drop from d ≡ take (to - from) (drop from d) ++ drop to d
between_places d from to h =
    let there : from + (to - from) ≡ to = omega (arith, h) in
    sym (take-append-drop (to - from) (drop from d)) ∙ ap (λ t. take (to - from) (drop from d) ++ t) (drop-drop (to - from) from d ∙ ap (λ k. drop k d) there)

pub byte_there : (d : List ℕ) (i c : ℕ) → 0 < c → get_or d i 0 ≡ c → drop i d ≡ c ∷ drop (i + 1) d
byte_there d i c some e =
    let within : i < length d = lt_of_not-le (λ h. omega (arith, get_or_past d i 0 h, e, some)) in
    drop_more d i 0 within ∙ ap (λ x. x ∷ drop (i + 1) d) e
