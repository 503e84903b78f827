-- Bytes that are cut into lines as they come.
use Rattle.std.proofs.Common.{◌≡◌, ◌⊎◌, inl, inr, ℕ, zero, suc, ◌+◌, ◌-◌, ◌<◌, ◌≤◌, true, List, [], ◌∷◌, ◌++◌, ◌&&◌, length, take, drop, refl, sym, ap, subst, ◌∙◌, arith, append_assoc, append-nil}
use Rattle.std.specs.List.{position_or_len}
use Rattle.std.proofs.lemmas.List.{length-append, length-take, take_all}
use Rattle.std.proofs.lemmas.List.Folds.{list_all-append}
use Rattle.std.proofs.KnownBytes.{Consumes-nil, Consumes-trans}
use Rattle.nn_device.specs.Device.{Reader}
use Rattle.nn_bytes.specs.Lines.{is_blank, is_blank_byte, line_feed}
use Rattle.nn_bytes.specs.Pieces.{is_unbroken, joined_lines, pieces}
use Rattle.nn_bytes.proofs.PieceLemmas.{each_more, ends, joined_more, lines_first, one_piece, unbroken_both}
use Rattle.nn_input.specs.Cut.{TornBytes, Lines, Came, HasCome, HasEnded, IsCutTo, IsFresh, IsTextOf, KeepsFirst, NextEnded, ReadOn, Refilled, ahead, line_text, no_bytes}
use Rattle.nn_input.specs.declared.lines.Place.{Place}
use Rattle.nn_input.specs.declared.lines.Place.TheVariants as place
use Rattle.nn_input.proofs.Firsts.{all_window, cut_window}

-- ---- What is kept.

-- of some bytes and more
take_both : (n : ℕ) (some more : List ℕ) → take n (some ++ more) ≡ take n some ++ take (n - length (take n some)) more
take_both zero some more = ap (λ k. take k more) (none_left 0)
  where
    none_left : (k : ℕ) → 0 ≡ 0 - k
    none_left k = omega arith
take_both (suc n) [] more = ap (λ k. take k more) same
  where
    same : suc n ≡ suc n - 0
    same = omega arith
take_both (suc n) (b ∷ some) more = ap (λ l. b ∷ l) (take_both n some more) ∙ ap (λ k. b ∷ (take n some ++ take k more)) (fewer (length (take n some)))
  where
    fewer : (k : ℕ) → n - k ≡ suc n - suc k
    fewer k = omega arith

pub keeps_more : (most : ℕ) (torn bytes : List ℕ) (x y : TornBytes) → KeepsFirst most torn x → y.kept ≡ x.kept ++ take (most - length x.kept) bytes → y.blank ≡ (x.blank && is_blank bytes) → KeepsFirst most (torn ++ bytes) y
keeps_more most torn bytes x y has is blank = record {
  kept = is ∙ ap (λ k. k ++ take (most - length k) bytes) has.kept ∙ sym (take_both most torn bytes);
  blank = blank ∙ ap (λ b. b && is_blank bytes) has.blank ∙ sym (list_all-append is_blank_byte torn bytes);
}

keeps_none : (most : ℕ) → KeepsFirst most [] no_bytes
keeps_none zero = record { kept = refl; blank = refl }
keeps_none (suc n) = record { kept = refl; blank = refl }

take_none : (n : ℕ) → take {A = ℕ} n [] ≡ []
take_none zero = refl
take_none (suc n) = refl

kept_nothing : (most : ℕ) (x : TornBytes) → KeepsFirst most [] x → x ≡ no_bytes
kept_nothing most x has = let none = has.kept ∙ take_none most in λ j. record { kept = none j; blank = has.blank j }

-- nothing is kept of nothing alone
none_torn : (most : ℕ) (torn : List ℕ) (x : TornBytes) → 1 ≤ most → KeepsFirst most torn x → length x.kept ≡ 0 → torn ≡ []
none_torn zero torn x some has none = absurd (omega (arith, some))
none_torn (suc n) [] x some has none = refl
none_torn (suc n) (b ∷ torn) x some has none = let long = ap length has.kept in absurd (omega (arith, long, none))

-- a line is kept whole, or as far as it may be
short_take : (n : ℕ) (t : List ℕ) → (take n t ≡ t) ⊎ (n ≤ length t)
short_take zero t = inr (omega arith)
short_take (suc n) [] = inl refl
short_take (suc n) (b ∷ t) = at (short_take n t)
  where
    at : (take n t ≡ t) ⊎ (n ≤ length t) → (b ∷ take n t ≡ b ∷ t) ⊎ (suc n ≤ suc (length t))
    at (inl same) = inl (ap (λ l. b ∷ l) same)
    at (inr long) = inr (omega (arith, long))

pub kept_text : (most : ℕ) (line : List ℕ) (x : TornBytes) → KeepsFirst most line x → IsTextOf most line x.kept x.blank
kept_text most line x has = record { is = at (short_take most line); told = has.blank }
  where
    at : (take most line ≡ line) ⊎ (most ≤ length line) → (x.kept ≡ line) ⊎ ((most ≤ length line) × (x.kept ≡ take most line))
    at (inl same) = inl (has.kept ∙ same)
    at (inr long) = inr (long, has.kept)

-- ---- A line ends, or none does.

-- all bytes that are ahead are of the line in hand
pub none_ends : (most : ℕ) (bytes : List ℕ) (lines : List (List ℕ)) (old new : Lines) → is_unbroken (ahead old) ≡ true → ahead new ≡ []
    → ((torn : List ℕ) → KeepsFirst most torn old.torn → KeepsFirst most (torn ++ ahead old) new.torn) → HasCome most bytes lines old → HasCome most bytes lines new
none_ends most bytes lines old new whole none keeps h = record {
  torn = h.torn ++ ahead old;
  joined = h.joined ∙ ap (λ t. joined_lines lines ++ t) (sym (append-nil (h.torn ++ ahead old)) ∙ ap (λ t. (h.torn ++ ahead old) ++ t) (sym none));
  each = h.each;
  unbroken = unbroken_both h.torn (ahead old) h.unbroken whole;
  kept = keeps h.torn h.kept;
}

-- a line ends in them with these bytes
pub one_ends : (most : ℕ) (bytes : List ℕ) (lines : List (List ℕ)) (text : List ℕ) (old new : Lines) → is_unbroken text ≡ true → ahead old ≡ text ++ line_feed ∷ ahead new → KeepsFirst most [] new.torn
    → (h : HasCome most bytes lines old) → HasCome most bytes (lines ++ (h.torn ++ text) ∷ []) new
one_ends most bytes lines text old new whole cut fresh h = record {
  torn = [];
  joined =
      h.joined ∙ ap (λ t. joined_lines lines ++ (h.torn ++ t)) cut
      ∙ ap (λ t. joined_lines lines ++ t) (sym (append_assoc h.torn text (line_feed ∷ ahead new)) ∙ sym (append_assoc (h.torn ++ text) (line_feed ∷ []) (ahead new)))
      ∙ sym (append_assoc (joined_lines lines) ((h.torn ++ text) ++ line_feed ∷ []) (ahead new))
      ∙ ap (λ t. t ++ ahead new) (sym (joined_more lines (h.torn ++ text)));
  each = each_more lines (h.torn ++ text) h.each (unbroken_both h.torn text h.unbroken whole);
  unbroken = refl;
  kept = fresh;
}

-- ---- Where the next line ends.

take_of_take : (n m : ℕ) (xs : List ℕ) → n ≤ m → take n (take m xs) ≡ take n xs
take_of_take zero m xs less = refl
take_of_take (suc n) zero xs less = absurd (omega (arith, less))
take_of_take (suc n) (suc m) [] less = refl
take_of_take (suc n) (suc m) (x ∷ xs) less = ap (λ l. x ∷ l) (take_of_take n m xs (omega (arith, less)))

module _ (buf known : List ℕ) (s e : ℕ) (deref : known ≡ buf) (at : ℕ) (first : at ≡ position_or_len ends (take (e - s) (drop s known))) (within : at ≤ length (take (e - s) (drop s known))) where
  left_is : take (e - s) (drop s known) ≡ take (e - s) (drop s buf)
  left_is = ap (λ bs. take (e - s) (drop s bs)) deref

  -- in none of these bytes
  pub no_feed_ahead : at ≡ length (take (e - s) (drop s known)) → (is_unbroken (take (e - s) (drop s buf)) ≡ true) × (take at (take (e - s) (drop s known)) ≡ take (e - s) (drop s buf)) × (take (e - e) (drop e buf) ≡ [])
  no_feed_ahead all = (
    subst (λ bs. is_unbroken bs ≡ true) left_is (all_window _ at first all),
    take_all at _ (omega (arith, all)) ∙ left_is,
    ap (λ n. take n (drop e buf)) (nothing_left e),
  )
    where
      nothing_left : (e : ℕ) → e - e ≡ 0
      nothing_left e = omega arith

  -- or there
  pub feed_ahead : (at ≡ length (take (e - s) (drop s known)) → ⊥)
      → (is_unbroken (take at (take (e - s) (drop s known))) ≡ true)
      × (take (e - s) (drop s buf) ≡ take at (take (e - s) (drop s known)) ++ line_feed ∷ take (e - (s + at + 1)) (drop (s + at + 1) buf))
      × (take ((s + at) - s) (drop s buf) ≡ take at (take (e - s) (drop s known)))
  feed_ahead some =
      let cut = cut_window (take (e - s) (drop s known)) buf s e at left_is first within some in
      let next : s + (at + 1) ≡ s + at + 1 = omega arith in
      let size : (s + at) - s ≡ at = omega arith in
      let short : at ≤ e - s = omega (arith, within, length-take (e - s) (drop s known)) in (
        cut.0,
        sym left_is ∙ cut.1 ∙ ap (λ n. take at (take (e - s) (drop s known)) ++ line_feed ∷ take (e - n) (drop n buf)) next,
        ap (λ n. take n (drop s buf)) size ∙ sym (take_of_take at (e - s) (drop s buf) short) ∙ ap (take at) (sym left_is),
      )

-- the line that ended came in one read
pub read_line : (most : ℕ) (bytes : List ℕ) (lines : List (List ℕ)) (start end printable : ℕ) (text : List ℕ) (old new : Lines) → 1 ≤ most → length old.torn.kept ≡ 0 → is_unbroken text ≡ true → ahead old ≡ text ++ line_feed ∷ ahead new
    → new.torn ≡ old.torn → line_text new (place.Read start end printable) ≡ text → HasCome most bytes lines old → HasEnded most bytes lines (place.Read start end printable) new
unfolding one_ends
read_line most bytes lines start end printable text old new some none whole cut same there h =
    let empty : h.torn ≡ [] = none_torn most h.torn old.torn some h.kept none in
    let line : h.torn ++ text ≡ text = ap (λ t. t ++ text) empty in
    record {
      line = h.torn ++ text;
      come = one_ends most bytes lines text old new whole cut (subst (KeepsFirst most []) (sym same) (subst (λ t. KeepsFirst most t old.torn) empty h.kept)) h;
      begins = refl;
      unbroken = unbroken_both h.torn text h.unbroken whole;
      text = record { is = inl (there ∙ sym line); told = ap is_blank (there ∙ sym line) };
    }

-- or in more than one
pub kept_line : (most : ℕ) (bytes : List ℕ) (lines : List (List ℕ)) (text : List ℕ) (old new : Lines) → is_unbroken text ≡ true → ahead old ≡ text ++ line_feed ∷ ahead new → new.torn ≡ no_bytes
    → ((torn : List ℕ) → KeepsFirst most torn old.torn → KeepsFirst most (torn ++ text) new.last) → HasCome most bytes lines old → HasEnded most bytes lines place.Kept new
unfolding one_ends
kept_line most bytes lines text old new whole cut none keeps h = record {
  line = h.torn ++ text;
  come = one_ends most bytes lines text old new whole cut (subst (KeepsFirst most []) (sym none) (keeps_none most)) h;
  begins = refl;
  unbroken = unbroken_both h.torn text h.unbroken whole;
  text = kept_text most (h.torn ++ text) new.last (keeps h.torn h.kept);
}

-- ---- Where a line begins.

-- behind a line that has ended
pub ended_fresh : (most : ℕ) (bytes : List ℕ) (lines : List (List ℕ)) (p : Place) (l : Lines) → HasEnded most bytes lines p l → IsFresh l
ended_fresh most bytes lines p l e = kept_nothing most l.torn (subst (λ t. KeepsFirst most t l.torn) e.begins e.come.kept)

-- what is ahead is all that came
pub come_ahead : (most : ℕ) (l : Lines) → IsFresh l → HasCome most (ahead l) [] l
come_ahead most l fresh = record { torn = []; joined = refl; each = refl; unbroken = refl; kept = subst (KeepsFirst most []) (sym fresh) (keeps_none most) }

-- and behind lines it is the rest
pub lines_come : (most : ℕ) (bytes : List ℕ) (lines : List (List ℕ)) (l : Lines) → 1 ≤ most → IsFresh l → HasCome most bytes lines l → bytes ≡ joined_lines lines ++ ahead l
lines_come most bytes lines l some fresh h =
    let none : h.torn ≡ [] = none_torn most h.torn l.torn some h.kept (ap (λ (t : TornBytes). length t.kept) fresh) in
    h.joined ∙ ap (λ t. joined_lines lines ++ (t ++ ahead l)) none

-- ---- Bytes come.

none_ahead : (most : ℕ) (earlier : List ℕ) (lines : List (List ℕ)) (l : Lines) → ahead l ≡ [] → (h : HasCome most earlier lines l) → earlier ≡ joined_lines lines ++ h.torn
none_ahead most earlier lines l none h = h.joined ∙ ap (λ a. joined_lines lines ++ (h.torn ++ a)) none ∙ ap (λ t. joined_lines lines ++ t) (append-nil h.torn)

-- what a read gave is ahead
pub comes_ahead : (most : ℕ) (earlier fresh : List ℕ) (lines : List (List ℕ)) (old new : Lines) → ahead old ≡ [] → ahead new ≡ fresh → new.torn ≡ old.torn
    → HasCome most earlier lines old → HasCome most (earlier ++ fresh) lines new
comes_ahead most earlier fresh lines old new none are same h = record {
  torn = h.torn;
  joined = ap (λ b. b ++ fresh) (none_ahead most earlier lines old none h) ∙ append_assoc (joined_lines lines) h.torn fresh ∙ ap (λ a. joined_lines lines ++ (h.torn ++ a)) (sym are);
  each = h.each;
  unbroken = h.unbroken;
  kept = subst (KeepsFirst most h.torn) (sym same) h.kept;
}

-- ---- The lines are the pieces between the line feeds, whatever follows.

-- also where not all is cut
pub come_pieces : (most : ℕ) (bytes : List ℕ) (lines : List (List ℕ)) (l : Lines) → (h : HasCome most bytes lines l)
    → (more : List ℕ) → pieces (bytes ++ more) ≡ lines ++ pieces (h.torn ++ (ahead l ++ more))
come_pieces most bytes lines l h more =
    ap (λ b. pieces (b ++ more)) h.joined ∙ ap pieces (append_assoc (joined_lines lines) (h.torn ++ ahead l) more ∙ ap (λ t. joined_lines lines ++ t) (append_assoc h.torn (ahead l) more))
    ∙ lines_first lines (h.torn ++ (ahead l ++ more)) h.each

-- all that came is cut into its lines and what is behind them
pub come_cut : (most : ℕ) (bytes : List ℕ) (lines : List (List ℕ)) (l : Lines) → ahead l ≡ [] → (h : HasCome most bytes lines l) → ((more : List ℕ) → pieces (bytes ++ more) ≡ lines ++ pieces (h.torn ++ more)) × (pieces bytes ≡ lines ++ h.torn ∷ [])
come_cut most bytes lines l none h = (
  λ more. ap (λ b. pieces (b ++ more)) (none_ahead most bytes lines l none h) ∙ ap pieces (append_assoc (joined_lines lines) h.torn more) ∙ lines_first lines (h.torn ++ more) h.each,
  ap pieces (none_ahead most bytes lines l none h) ∙ lines_first lines h.torn h.each ∙ ap (λ ps. lines ++ ps) (one_piece h.torn h.unbroken),
)

-- ---- So much more was read.

pub none_came : (r : Reader) → Came r r []
none_came r = record { got = Consumes-nil r.left; counted = omega arith; unfailed = refl }

pub none_read : (most : ℕ) (r : Reader) (l : Lines) → ReadOn most r r l l
none_read most r l = record { bytes = []; came = none_came r; goes_on = λ earlier lines h. subst (λ b. HasCome most b lines l) (sym (append-nil earlier)) h }

pub come_both : (a b c : Reader) (some more : List ℕ) → Came a b some → Came b c more → Came a c (some ++ more)
come_both a b c some more x y = record {
  got = Consumes-trans a.left b.left c.left some more x.got y.got;
  counted = omega (arith, length-append some more, x.counted, y.counted);
  unfailed = y.unfailed ∙ x.unfailed;
}

-- all is cut, and more is read
pub more_read : (most : ℕ) (a b c : Reader) (l old mid new : Lines) → ReadOn most a b l old → IsCutTo most old mid → ahead mid ≡ [] → Refilled b c mid new → ReadOn most a c l new
more_read most a b c l old mid new so_far cut none r = record {
  bytes = so_far.bytes ++ r.bytes;
  came = come_both a b c so_far.bytes r.bytes so_far.came r.came;
  goes_on =
      λ earlier lines h. subst (λ t. HasCome most t lines new) (append_assoc earlier so_far.bytes r.bytes)
      (comes_ahead most (earlier ++ so_far.bytes) r.bytes lines mid new none r.are r.torn (cut (earlier ++ so_far.bytes) lines (so_far.goes_on earlier lines h)));
}

-- and a line ends
pub one_read : (most : ℕ) (a b : Reader) (l old new : Lines) (p : Place) → ReadOn most a b l old → ((bytes : List ℕ) (lines : List (List ℕ)) → HasCome most bytes lines old → HasEnded most bytes lines p new)
    → NextEnded most a b l new p
one_read most a b l old new p so_far ends = record {
  bytes = so_far.bytes;
  came = so_far.came;
  ended = λ earlier lines h. ends (earlier ++ so_far.bytes) lines (so_far.goes_on earlier lines h);
}

-- and nothing was ahead before
pub first_read : (most : ℕ) (a b : Reader) (old new : Lines) → ahead old ≡ [] → Refilled a b old new → ReadOn most a b old new
first_read most a b old new none r = record { bytes = r.bytes; came = r.came; goes_on = λ earlier lines h. comes_ahead most earlier r.bytes lines old new none r.are r.torn h }

-- ---- Where a line may be as long as all bytes, it is kept whole.

same_length : (lines : List (List ℕ)) (torn more bytes : List ℕ) → bytes ≡ joined_lines lines ++ (torn ++ more) → length bytes ≡ length (joined_lines lines) + (length torn + length more)
same_length lines torn more bytes is = ap length is ∙ length-append (joined_lines lines) (torn ++ more) ∙ ap (λ n. length (joined_lines lines) + n) (length-append torn more)

pub whole_torn : (most : ℕ) (bytes : List ℕ) (lines : List (List ℕ)) (l : Lines) (h : HasCome most bytes lines l) → length bytes ≤ most → l.torn.kept ≡ h.torn
whole_torn most bytes lines l h within = h.kept.kept ∙ take_all most h.torn (omega (arith, within, same_length lines h.torn (ahead l) bytes h.joined))

-- a line is shorter than all of them
pub line_within : (most : ℕ) (bytes : List ℕ) (lines : List (List ℕ)) (p : Place) (l : Lines) (h : HasEnded most bytes lines p l) → length h.line < length bytes
line_within most bytes lines p l h =
    omega (
      arith,
      same_length (lines ++ h.line ∷ []) h.come.torn (ahead l) bytes h.come.joined,
      ap length (joined_more lines h.line),
      length-append (joined_lines lines) (h.line ++ line_feed ∷ []),
      length-append h.line (line_feed ∷ []),
    )

pub whole_line : (most : ℕ) (bytes : List ℕ) (lines : List (List ℕ)) (p : Place) (l : Lines) (h : HasEnded most bytes lines p l) → length bytes ≤ most → line_text l p ≡ h.line
whole_line most bytes lines p l h within = at h.text.is
  where
    at : (line_text l p ≡ h.line) ⊎ ((most ≤ length h.line) × (line_text l p ≡ take most h.line)) → line_text l p ≡ h.line
    at (inl same) = same
    at (inr long) = absurd (omega (arith, long.0, within, line_within most bytes lines p l h))
