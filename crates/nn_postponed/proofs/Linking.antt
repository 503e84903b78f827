-- A list of links with one more at its end.
use Rattle.std.proofs.Common.{◌≡◌, ℕ, ◌+◌, ◌<◌, List, [], ◌∷◌, ◌++◌, length, get_or, ap, ◌∙◌, sym, length-append}
use Rattle.std.proofs.lemmas.List.{get_or_append_left}
use Rattle.std.proofs.Math.Seq.{get_or-append_seam}

pub appended_long : (next new : List ℕ) (n : ℕ) → new ≡ next ++ n ∷ [] → length new ≡ length next + 1
appended_long next new n is = ap length is ∙ length-append next (n ∷ [])

pub before_end : (next new : List ℕ) (q n : ℕ) → new ≡ next ++ n ∷ [] → q < length next → get_or new q 0 ≡ get_or next q 0
before_end next new q n is lt = ap (λ l. get_or l q 0) is ∙ get_or_append_left next (n ∷ []) 0 q lt

pub at_the_end : (next new : List ℕ) (k : ℕ) → new ≡ next ++ 0 ∷ [] → length next ≡ k → get_or new k 0 ≡ 0
at_the_end next new k is long = ap (λ l. get_or l k 0) is ∙ ap (λ i. get_or (next ++ 0 ∷ []) i 0) (sym long) ∙ get_or-append_seam next 0 [] 0
