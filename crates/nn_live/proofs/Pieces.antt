-- Lines that are put piece by piece.
use Rattle.std.proofs.Common.{◌≡◌, ℕ, zero, suc, ◌-◌, ◌<◌, Bool, true, cond, List, [], ◌∷◌, ◌++◌, map, take, ap, arith, append_assoc, sym}
use Rattle.std.specs.Prelude.{codes, filter, flat_map}
use Rattle.nn_bytes.specs.Lines.{line_feed}
use Rattle.nn_types.specs.declared.report.Message.{Message}
use Rattle.nn_live.specs.Answers.{held_line}

-- a space and a field
abbrev pub field : List ℕ → List ℕ
field text = codes " " ++ text

pub held_pieces : (block dn number stamp kind : List ℕ)
    → codes "held" ++ (field block ++ (field dn ++ (field number ++ (field stamp ++ (codes " " ++ (kind ++ line_feed ∷ []))))))
    ≡ codes "held " ++ block ++ codes " " ++ dn ++ codes " " ++ number ++ codes " " ++ stamp ++ codes " " ++ kind ++ line_feed ∷ []
held_pieces block dn number stamp kind = simp append_assoc

pub head_pieces : (block stamp len : List ℕ)
    → codes "block" ++ (field block ++ (field stamp ++ field len))
    ≡ codes "block " ++ block ++ codes " " ++ stamp ++ codes " " ++ len
head_pieces block stamp len = simp append_assoc

pub path_pieces : (head path : List ℕ) → head ++ (codes " " ++ (path ++ line_feed ∷ [])) ≡ head ++ codes " " ++ path ++ line_feed ∷ []
path_pieces head path = simp append_assoc

pub status_pieces : (a b c d e f g h i : List ℕ) → a ++ (b ++ (c ++ (d ++ (e ++ (f ++ (g ++ (h ++ i))))))) ≡ a ++ b ++ c ++ d ++ e ++ f ++ g ++ h ++ i
status_pieces a b c d e f g h i = simp append_assoc

-- the first of the lines that are left
pub one_line : (left : ℕ) (m : Message) (messages : List Message) → 0 < left
    → flat_map (λ line. line) (take left (map held_line (m ∷ messages))) ≡ held_line m ++ flat_map (λ line. line) (take (left - 1) (map held_line messages))
one_line zero m messages some = absurd (omega (arith, some))
one_line (suc k) m messages some =
    let same : k ≡ suc k - 1 = omega arith in
    ap (λ n. held_line m ++ flat_map (λ line. line) (take n (map held_line messages))) same

-- the text of the first element that passes
pub first_kept : {X : Type 0} (p : X → Bool) (f : X → List ℕ) (x : X) (xs : List X) → true ≡ p x → flat_map f (filter p (x ∷ xs)) ≡ f x ++ flat_map f (filter p xs)
first_kept p f x xs is = ap (λ b. flat_map f (cond b (x ∷ filter p xs) (filter p xs))) (sym is)
