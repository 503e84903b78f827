-- Blocks that have too few live replicas.
use Rattle.std.proofs.Common.{◌≡◌, ℕ, zero, suc, ◌+◌, ◌-◌, ◌≤◌, ◌<◌, ◌^◌, Bool, true, false, cond, List, [], ◌∷◌, ◌++◌, Option, Some, None, length, take, refl, sym, subst, ap, ap₂, ◌∙◌, arith, append_assoc, append-nil, length-append}
use Rattle.std.specs.Prelude.{codes, decimal, filter, flat_map, nat_le, option_map}
use Rattle.std.specs.List.{cons_option}
use Rattle.std.proofs.lemmas.Bool.{le-leb, lt-leb}
use Rattle.std.proofs.lemmas.List.Elements.{filter-append}
use Rattle.nn_bytes.specs.Lines.{line_feed}
use Rattle.nn_types.specs.declared.block.Block.{Block}
use Rattle.nn_types.specs.declared.replica.Replica.{Replica}
use Rattle.nn_model.specs.Counts.{SafeMode, closed_blocks_of, is_live, live_count, live_up_to, safe_mode_of}
use Rattle.nn_model.specs.Namespace.{Namespace, Path}
use Rattle.nn_model.specs.declared.form.Form.{Form}
use Rattle.nn_listing.specs.Listing.{path_json}
use Rattle.nn_listing.specs.Kept.{kept_lines, kept_after}
use Rattle.nn_listing.specs.Safety.{unsafe_in, unsafe_of}
use Rattle.nn_listing.specs.declared.safety.Kept.{Kept}
use Rattle.nn_replicas.specs.Agreement.{Shows}
use Rattle.nn_replicas.specs.Calls.{entry_or_none, replica_at, replicas_at}
use Rattle.nn_replicas.specs.Entry.{live_cells, replicas_in}
use Rattle.nn_replicas.specs.Table.{Replicas}
use Rattle.nn_replicas.specs.declared.entry.Cell.{Cell}
use Rattle.nn_device.specs.Device.{Writer}
use Rattle.nn_device.specs.Page.{Page, PutsPiece, PutsAllBut}
use Rattle.nn_device.proofs.Pages.{one_more}
use Rattle.nn_replicas.proofs.Entries.{counted_cons}
use Rattle.nn_replicas.proofs.Ties.{cells_live, of_cells, same_live}

-- how many of these replicas of a block are live
abbrev pub lives : Block → List (ℕ × Replica) → ℕ
lives b [] = 0
lives b (r ∷ replicas) = cond (is_live (Some r.1) b) 1 0 + lives b replicas

-- of those in the cells of an entry
lives_cells : (b : Block) (cells : List (ℕ × Cell)) → lives b (replicas_in cells) ≡ live_cells b cells
lives_cells b [] = refl
lives_cells b (x ∷ cells) = at x.1.replica (lives_cells b cells) ∙ sym (counted_cons (λ (c : Cell). is_live c.replica b) x cells)
  where
    at : (o : Option Replica) → lives b (replicas_in cells) ≡ live_cells b cells
        → lives b (cons_option (option_map (λ r. (x.0, r)) o) (replicas_in cells)) ≡ cond (is_live o b) 1 0 + live_cells b cells
    at None later = omega (arith, later)
    at (Some r) later = ap (λ k. cond (is_live (Some r) b) 1 0 + k) later

pub all_lives : (n : Namespace) (t : Replicas) (b : Block) → Shows n t → lives b (replicas_at t b.id) ≡ live_count (replica_at t) b
all_lives n t b shows =
    lives_cells b (entry_or_none t b.id).cells
    ∙ cells_live b 256 (entry_or_none t b.id).cells (shows.in_order.datanodes b.id) (λ dn h. shows.datanodes dn b.id h)
    ∙ same_live b 256 (of_cells (entry_or_none t b.id).cells) (replica_at t) (λ dn. refl)

pub few_live : (n : ℕ) (f : ℕ → ℕ → Option Replica) (b : Block) → live_up_to n f b ≤ n
few_live zero f b = omega arith
few_live (suc n) f b = at (is_live (f (suc n) b.id) b) (few_live n f b)
  where
    at : (live : Bool) → live_up_to n f b ≤ n → cond live 1 0 + live_up_to n f b ≤ suc n
    at true h = omega (arith, h)
    at false h = omega (arith, h)

pub few : (n : Namespace) (t : Replicas) (b : Block) → Shows n t → lives b (replicas_at t b.id) ≤ 256
few n t b shows = subst (λ k. k ≤ 256) (sym (all_lives n t b shows)) (few_live 256 (replica_at t) b)

-- so there is room for one more
pub one_fits : (n : Namespace) (t : Replicas) (b : Block) (live left : ℕ) → Shows n t → live + left ≡ lives b (replicas_at t b.id) → live + 1 < 2 ^ 64
one_fits n t b live left shows is = fits (lives b (replicas_at t b.id)) is (few n t b shows)
  where
    fits : (all : ℕ) → live + left ≡ all → all ≤ 256 → live + 1 < 2 ^ 64
    fits all e h = omega (arith, e, h)

-- one replica is counted, or not
counted_one : (b : Block) (live all : ℕ) (old : List (ℕ × Replica)) (r : ℕ × Replica) (new : List (ℕ × Replica)) → old ≡ r ∷ new → live + lives b old ≡ all
    → (is : Bool) → is ≡ is_live (Some r.1) b → (live + cond is 1 0) + lives b new ≡ all
counted_one b live all old r new e h is same = at (cond is 1 0) (lives b new) (sym (ap (λ k. live + k) (ap (lives b) e ∙ ap (λ c. cond c 1 0 + lives b new) (sym same))) ∙ h)
  where
    at : (one more : ℕ) → live + (one + more) ≡ all → (live + one) + more ≡ all
    at one more g = omega (arith, g)

pub counted_live : (b : Block) (live all : ℕ) (old : List (ℕ × Replica)) (r : ℕ × Replica) (new : List (ℕ × Replica)) → old ≡ r ∷ new → live + lives b old ≡ all → true ≡ is_live (Some r.1) b → (live + 1) + lives b new ≡ all
counted_live b live all old r new e h is = counted_one b live all old r new e h true is

pub passed_over : (b : Block) (live all : ℕ) (old : List (ℕ × Replica)) (r : ℕ × Replica) (new : List (ℕ × Replica)) → old ≡ r ∷ new → live + lives b old ≡ all → false ≡ is_live (Some r.1) b → live + lives b new ≡ all
passed_over b live all old r new e h isnt = ap (λ k. k + lives b new) (none_more live) ∙ counted_one b live all old r new e h false isnt
  where
    none_more : (k : ℕ) → k ≡ k + 0
    none_more k = omega arith

pub all_counted : (n : Namespace) (t : Replicas) (b : Block) (live : ℕ) (left : List (ℕ × Replica)) → Shows n t → left ≡ [] → live + lives b left ≡ lives b (replicas_at t b.id) → live ≡ live_count (replica_at t) b
all_counted n t b live left shows none is = none_left live ∙ ap (λ l. live + lives b l) (sym none) ∙ is ∙ all_lives n t b shows
  where
    none_left : (k : ℕ) → k ≡ k + 0
    none_left k = omega arith

-- ---- At most so many lines.

abbrev pub joined : List (List ℕ) → List ℕ
joined lines = flat_map (λ line. line) lines

take_none : (k : ℕ) → take {A = List ℕ} k [] ≡ []
take_none zero = refl
take_none (suc k) = refl

-- of lines and more
pub joined_both : (most : ℕ) (some more : List (List ℕ)) → joined (take most (some ++ more)) ≡ joined (take most some) ++ joined (take (most - length some) more)
joined_both zero some more = ap (λ k. joined (take k more)) (none_left (length some))
  where
    none_left : (k : ℕ) → 0 ≡ 0 - k
    none_left k = omega arith
joined_both (suc most) [] more = ap (λ k. joined (take k more)) same
  where
    same : suc most ≡ suc most - 0
    same = omega arith
joined_both (suc most) (line ∷ some) more =
    ap (λ l. line ++ l) (joined_both most some more) ∙ sym (append_assoc line (joined (take most some)) (joined (take (most - length some) more)))
    ∙ ap (λ k. (line ++ joined (take most some)) ++ joined (take k more)) (fewer (length some))
  where
    fewer : (k : ℕ) → most - k ≡ suc most - suc k
    fewer k = omega arith

-- how many may still come
pub left_both : (most a b : ℕ) → (most - a) - b ≡ most - (a + b)
left_both most a b = omega arith

-- ---- One block.

module _ (min : ℕ) (replica : ℕ → ℕ → Option Replica) (p : Path) (b : Block) where
  abbrev its_line : List ℕ
  its_line = codes "unsafe " ++ decimal b.id ++ codes " " ++ decimal (live_count replica b) ++ codes " " ++ path_json p ++ line_feed ∷ []

  pub safe_block : min ≤ live_count replica b → unsafe_of min replica p b ≡ []
  safe_block enough = ap (λ c. cond c [] (its_line ∷ [])) (le-leb _ _ enough)

  pub unsafe_block : live_count replica b < min → unsafe_of min replica p b ≡ its_line ∷ []
  unsafe_block few = ap (λ c. cond c [] (its_line ∷ [])) (lt-leb _ _ few)

  -- so a safe one has none
  pub none_of_safe : (most : ℕ) → min ≤ live_count replica b → ([] ≡ joined (take most (unsafe_of min replica p b))) × (most ≡ most - length (unsafe_of min replica p b))
  none_of_safe most enough = at most (unsafe_of min replica p b) (safe_block enough)
    where
      at : (most : ℕ) (lines : List (List ℕ)) → lines ≡ [] → ([] ≡ joined (take most lines)) × (most ≡ most - length lines)
      at zero lines e = (refl, omega (arith, ap length e))
      at (suc k) [] e = (refl, omega arith)
      at (suc k) (line ∷ lines) e = absurd (cc)

  -- and another one has one, where there is room
  pub one_of_unsafe : (most : ℕ) → live_count replica b < min → 0 < most → (its_line ≡ joined (take most (unsafe_of min replica p b))) × (most - 1 ≡ most - length (unsafe_of min replica p b))
  one_of_unsafe zero low some = absurd (omega (arith, some))
  one_of_unsafe (suc k) low some =
      (sym (append-nil its_line) ∙ ap (λ (lines : List (List ℕ)). its_line ++ joined lines) (sym (take_none k)) ∙ ap (λ (lines : List (List ℕ)). joined (take (suc k) lines)) (sym (unsafe_block low)), ap (λ (lines : List (List ℕ)). suc k - length lines) (sym (unsafe_block low)))

-- where there is none, nothing comes
pub no_room : (most : ℕ) (lines : List (List ℕ)) → most ≡ 0 → ([] ≡ joined (take most lines)) × (0 ≡ most - length lines)
no_room zero lines e = (refl, omega arith)
no_room (suc k) lines e = absurd (omega (arith, e))

-- ---- How many there are in all.

module _ (min : ℕ) (replica : ℕ → ℕ → Option Replica) where
  abbrev safe : Block → Bool
  safe b = nat_le min (live_count replica b)

  -- a block is safe, or has a line
  one_block : (p : Path) (b : Block) (is : Bool) (c : Bool) → c ≡ is → length (cond is [] ((codes "unsafe " ++ decimal b.id ++ codes " " ++ decimal (live_count replica b) ++ codes " " ++ path_json p ++ line_feed ∷ []) ∷ [])) + cond c 1 0 ≡ 1
  one_block p b true c e = ap (λ d. 0 + cond d 1 0) e
  one_block p b false c e = ap (λ d. 1 + cond d 1 0) e

  of_blocks : (p : Path) (bs : List Block) → length (flat_map (unsafe_of min replica p) bs) + length (filter safe bs) ≡ length bs
  of_blocks p [] = refl
  of_blocks p (b ∷ bs) = one_more (unsafe_of min replica p b) (flat_map (unsafe_of min replica p) bs) (filter safe bs) b bs (of_blocks p bs) (one_block p b (safe b))
    where
      one_more : (some more : List (List ℕ)) (kept : List Block) (b : Block) (bs : List Block) → length more + length kept ≡ length bs
          → ((c : Bool) → c ≡ safe b → length some + cond c 1 0 ≡ 1) → length (some ++ more) + length (cond (safe b) (b ∷ kept) kept) ≡ suc (length bs)
      one_more some more kept b bs later here = at (safe b) (here (safe b) refl)
        where
          at : (c : Bool) → length some + cond c 1 0 ≡ 1 → length (some ++ more) + length (cond c (b ∷ kept) kept) ≡ suc (length bs)
          at true h = omega (arith, h, later, length-append some more)
          at false h = omega (arith, h, later, length-append some more)

  pub of_rows : (rows : List (Path × Form))
      → length (unsafe_in min replica rows) + length (filter safe (flat_map (λ row. closed_blocks_of row.1) rows)) ≡ length (flat_map (λ row. closed_blocks_of row.1) rows)
  of_rows [] = refl
  of_rows (row ∷ rows) =
      let here = of_blocks row.0 (closed_blocks_of row.1) in
      let later = of_rows rows in
      let lines = length-append (flat_map (unsafe_of min replica row.0) (closed_blocks_of row.1)) (unsafe_in min replica rows) in
      let kept = ap length (filter-append safe (closed_blocks_of row.1) (flat_map (λ row. closed_blocks_of row.1) rows)) ∙ length-append (filter safe (closed_blocks_of row.1)) (filter safe (flat_map (λ row. closed_blocks_of row.1) rows)) in
      let all = length-append (closed_blocks_of row.1) (flat_map (λ row. closed_blocks_of row.1) rows) in
      omega (arith, here, later, lines, kept, all)

-- what is not 0
pub above_zero : (n : ℕ) → (n ≡ 0 → ⊥) → 0 < n
above_zero zero isnt = absurd (isnt refl)
above_zero (suc n) isnt = omega arith

-- ---- The first of what is left.

module _ (k : Kept) (some more lines : List (List ℕ)) (are : lines ≡ some ++ more) where
  pub first_put : (text : List ℕ) (p q r : Page) (w x y : Writer) → PutsAllBut text (kept_lines k lines) p w q x → PutsPiece (kept_lines k some) q x r y
      → PutsAllBut text (kept_lines (kept_after k some) more) p w r y
  first_put text p q r w x y all put = one_more text (kept_lines k some) (kept_lines (kept_after k some) more) p q r w x y
      (subst (λ t. PutsAllBut text t p w q x) (ap (kept_lines k) are ∙ joined_both k.most some more) all) put

  pub fewer_left : kept_after (kept_after k some) more ≡ kept_after k lines
  fewer_left = ap (λ m. record k { most = m }) (left_both k.most (length some) (length more) ∙ ap (λ n. k.most - n) (sym (ap length are ∙ length-append some more)))

-- ---- What `unsafe` is answered.

pub unsafe_count : (permille min : ℕ) (n : Namespace) (replica : ℕ → ℕ → Option Replica) (m : SafeMode) → m ≡ safe_mode_of permille min n replica → m.total - m.safe ≡ length (unsafe_in min replica n.rows)
unsafe_count permille min n replica m e = ap₂ (λ a b. a - b) (ap (λ (k : SafeMode). k.total) e) (ap (λ (k : SafeMode). k.safe) e) ∙ rest (length (unsafe_in min replica n.rows)) _ _ (of_rows min replica n.rows)
  where
    rest : (a b c : ℕ) → a + b ≡ c → c - b ≡ a
    rest a b c e = omega (arith, e)

-- all lines
pub all_lines : (count : ℕ) (lines : List (List ℕ)) → count ≡ length lines → joined (take count lines) ≡ joined lines
all_lines zero [] e = refl
all_lines zero (line ∷ lines) e = absurd (omega (arith, e))
all_lines (suc k) [] e = absurd (omega (arith, e))
all_lines (suc k) (line ∷ lines) e = ap (λ l. line ++ l) (all_lines k lines (omega (arith, e)))
