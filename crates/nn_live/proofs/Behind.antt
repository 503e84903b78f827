-- An image in front of a service's lines.
use Rattle.std.proofs.Common.{◌≡◌, ℕ, zero, suc, true, List, [], ◌∷◌, ◌++◌, take, Ok, Err, refl, sym, ap, ◌∙◌, append_assoc, append-nil}
use Rattle.std.specs.List.{list_all}
use Rattle.nn_bytes.specs.Pieces.{is_unbroken, joined_lines, pieces}
use Rattle.nn_bytes.proofs.PieceLemmas.{lines_first, one_piece, some_piece}
use Rattle.nn_model.specs.Namespace.{Namespace}
use Rattle.nn_image.specs.Front.{IsJudged, IsWaiting, Waits}
use Rattle.nn_image.specs.Reading.{read_image}
use Rattle.nn_image.specs.declared.fault.ImageFault.{ImageFault}
use Rattle.nn_image.specs.declared.fault.ImageFault.TheVariants.{NotHeader, BadLine, WrongOrder, CountMismatch, Truncated, BadVersion, ReadFault, OutOfMemory}
use Rattle.nn_live.specs.Live.{LiveSetup, Stage, image_lines, loaded, loading, new_service, refused, so_far, takes_line, takes_pieces, told_so_far, written_of}
use Rattle.nn_live.specs.Taking.{stage_after}

-- a line of several is taken, and the others follow
one_taken : (asked : LiveSetup) (line p : List ℕ) (ps : List (List ℕ)) (s : Stage) → takes_pieces asked (line ∷ p ∷ ps) s ≡ takes_pieces asked (p ∷ ps) (takes_line asked line s)
unfolding takes_pieces
one_taken asked line p ps s = refl

first_taken : (asked : LiveSetup) (line : List ℕ) (qs : List (List ℕ)) (s : Stage) → (q : List ℕ) × (rest : List (List ℕ)) × (qs ≡ q ∷ rest)
    → takes_pieces asked (line ∷ qs) s ≡ takes_pieces asked qs (takes_line asked line s)
first_taken asked line qs s (q, rest, e) =
    ap (λ ps. takes_pieces asked (line ∷ ps) s) e ∙ one_taken asked line q rest s ∙ ap (λ ps. takes_pieces asked ps (takes_line asked line s)) (sym e)

some_more : (lines : List (List ℕ)) (p : List ℕ) (ps : List (List ℕ)) → (q : List ℕ) × (rest : List (List ℕ)) × (lines ++ p ∷ ps ≡ q ∷ rest)
some_more [] p ps = (p, ps, refl)
some_more (line ∷ lines) p ps = (line, lines ++ p ∷ ps, refl)

-- lines behind each of which the image waits
still_loading : (asked : LiveSetup) (before lines : List (List ℕ)) (p : List ℕ) (ps : List (List ℕ)) → ((n : ℕ) → read_image (joined_lines (before ++ take n lines)) ≡ Err Truncated)
    → takes_pieces asked (lines ++ p ∷ ps) (loading before) ≡ takes_pieces asked (p ∷ ps) (loading (before ++ lines))
still_loading asked before [] p ps waits = ap (λ ls. takes_pieces asked (p ∷ ps) (loading ls)) (sym (append-nil before))
still_loading asked before (line ∷ lines) p ps waits =
    first_taken asked line (lines ++ p ∷ ps) (loading before) (some_more lines p ps)
    ∙ ap (λ r. takes_pieces asked (lines ++ p ∷ ps) (loaded (before ++ line ∷ []) r)) (waits (suc zero))
    ∙ still_loading asked (before ++ line ∷ []) lines p ps (λ n. ap (λ ls. read_image (joined_lines ls)) (append_assoc before (line ∷ []) (take n lines)) ∙ waits (suc n))
    ∙ ap (λ ls. takes_pieces asked (p ∷ ps) (loading ls)) (append_assoc before (line ∷ []) lines)

lines_load : (asked : LiveSetup) (lines : List (List ℕ)) (p : List ℕ) (ps : List (List ℕ)) → Waits lines → takes_pieces asked (lines ++ p ∷ ps) (loading []) ≡ takes_pieces asked (p ∷ ps) (loading lines)
lines_load asked lines p ps waits = still_loading asked [] lines p ps waits

-- ---- The image waits.

module _ (asked : LiveSetup) (bytes : List ℕ) (w : IsWaiting bytes) where
  pub waiting_stage : so_far asked true bytes ≡ (loading w.lines, w.torn)
  unfolding takes_pieces
  waiting_stage =
      ap (so_far asked true) w.are
      ∙ ap (λ ps. takes_pieces asked ps (loading [])) (lines_first w.lines w.torn w.each ∙ ap (λ ps. w.lines ++ ps) (one_piece w.torn w.unbroken))
      ∙ lines_load asked w.lines w.torn [] w.waits

  pub waiting_says : told_so_far asked true bytes ≡ []
  waiting_says = ap (λ (r : Stage × List ℕ). written_of r.0) waiting_stage

-- ---- It has ended, or a line of it is refused.

judged_is : (lines : List (List ℕ)) (fault : ImageFault) → (fault ≡ Truncated → ⊥) → loaded lines (Err fault) ≡ refused fault
judged_is lines NotHeader is = refl
judged_is lines (BadLine n) is = refl
judged_is lines (WrongOrder n) is = refl
judged_is lines CountMismatch is = refl
judged_is lines Truncated is = absurd (is refl)
judged_is lines BadVersion is = refl
judged_is lines ReadFault is = refl
judged_is lines OutOfMemory is = refl

refused_stays : (asked : LiveSetup) (ps : List (List ℕ)) (fault : ImageFault) → (takes_pieces asked ps (refused fault)).0 ≡ refused fault
unfolding takes_pieces
refused_stays asked [] fault = refl
refused_stays asked (torn ∷ []) fault = refl
refused_stays asked (text ∷ next ∷ ps) fault = refused_stays asked (next ∷ ps) fault

module _ (asked : LiveSetup) (before : List (List ℕ)) (line : List ℕ) (each : list_all is_unbroken (before ++ line ∷ []) ≡ true) (waits : Waits before) where
  last_line : (more : List ℕ) → so_far asked true (joined_lines (before ++ line ∷ []) ++ more) ≡ takes_pieces asked (pieces more) (image_lines (before ++ line ∷ []))
  last_line more =
      let others = some_piece more in
      ap (λ ps. takes_pieces asked ps (loading [])) (lines_first (before ++ line ∷ []) more each ∙ append_assoc before (line ∷ []) (pieces more))
      ∙ lines_load asked before line (pieces more) waits
      ∙ first_taken asked line (pieces more) (loading before) (others.0, others.1, others.2)

pub judged_stage : (asked : LiveSetup) (n : Namespace) (txid : ℕ) (bytes left : List ℕ) (j : IsJudged (Ok (n, txid)) bytes left) (more : List ℕ)
    → so_far asked true (joined_lines (j.before ++ j.line ∷ []) ++ more) ≡ stage_after asked (new_service n txid) more
judged_stage asked n txid bytes left j more =
    last_line asked j.before j.line j.each j.waits more ∙ ap (λ r. takes_pieces asked (pieces more) (loaded (j.before ++ j.line ∷ []) r)) j.read

pub judged_refused : (asked : LiveSetup) (fault : ImageFault) (bytes left : List ℕ) (j : IsJudged (Err fault) bytes left) (more : List ℕ) → (so_far asked true (bytes ++ more)).0 ≡ refused fault
judged_refused asked fault bytes left j more =
    let lines = j.before ++ j.line ∷ [] in
    ap (λ (r : Stage × List ℕ). r.0) (
    ap (λ b. so_far asked true (b ++ more)) j.are ∙ ap (so_far asked true) (append_assoc (joined_lines lines) left more)
    ∙ last_line asked j.before j.line j.each j.waits (left ++ more)
    ∙ ap (λ r. takes_pieces asked (pieces (left ++ more)) (loaded lines r)) j.read
    ∙ ap (takes_pieces asked (pieces (left ++ more))) (judged_is lines fault (λ e. j.told (ap Err e)))
    )
    ∙ refused_stays asked (pieces (left ++ more)) fault
