-- An image whose lines are loaded at once.
use Rattle.std.proofs.Common.{◌≡◌, ◌⊎◌, inl, inr, ℕ, zero, suc, ◌-◌, ◌<◌, ◌≤◌, ◌^◌, ◌==◌, ◌||◌, Bool, true, false, cond, length, take, List, [], ◌∷◌, ◌++◌, Option, Some, None, Result, Ok, Err, is_some, refl, sym, ap, subst, ◌∙◌, arith, append-nil, append_assoc, length-append, codes}
use Rattle.std.specs.Option.{ok_or}
use Rattle.std.specs.Str.{is_utf8, chars}
use Rattle.std.specs.Ordering.{is_lt}
use Rattle.std.specs.Io.KnownBytes.{IsAtEnd, Keeps}
use Rattle.std.proofs.KnownBytes.{Consumes-kept}
use Rattle.std.proofs.lemmas.Bool.{cases_lt}
use Rattle.std.proofs.lemmas.List.{take-append-le, take_all}
use Rattle.serde_json.specs.Data.{Data}
use Rattle.serde_json.specs.Find.{get}
use Rattle.nn_bytes.specs.Lines.{line_feed}
use Rattle.nn_device.specs.Device.{FailedToReadOn, IsRefusal, Reader}
use Rattle.nn_model.specs.Namespace.{Namespace, Path, path_cmp}
use Rattle.nn_model.specs.declared.form.Form.{Form}
use Rattle.nn_tree.specs.Restore.{row_fits}
use Rattle.nn_input.specs.Cut.{HasCome, HasEnded, IsCutTo, IsFresh, Lines, Refilled, ahead, line_blank, line_text}
use Rattle.nn_bytes.specs.Pieces.{joined_lines}
use Rattle.nn_input.specs.declared.lines.Place.{Place}
use Rattle.nn_input.proofs.Cuts.{come_ahead, come_both, comes_ahead, ended_fresh, lines_come, none_came}
use Rattle.nn_bytes.proofs.PieceLemmas.{joined_more}
use Rattle.nn_image.specs.Loading.{Loading, TakesLine, at_header, behind_end, ends_with, fault_of_loading, in_rows, loaded_from, refused as bad}
use Rattle.nn_image.specs.Reading.{all_from, at_end_line, by_key, by_value, fields_in, has_end, is_end_line, last_path, next_line_number, nothing_more, number_under, object_of, of_header, of_version, pieces_of, read_image, row_of_line, rows_from, value_of_line, whole_value, with_next_row, with_rows, ◌then◌}
use Rattle.nn_image.specs.declared.fault.ImageFault.{ImageFault}
use Rattle.nn_image.specs.declared.fault.ImageFault.TheVariants.{NotHeader, BadLine, WrongOrder, CountMismatch, Truncated, BadVersion}
use Rattle.nn_image.proofs.LoadedLines.{only_piece}
use Rattle.nn_image.specs.Front.{FailsWaiting, IsJudged, IsWaiting, LoadedAtOnce, Waits}
use Rattle.nn_image.specs.FrontReading.{HasJudged, HasWaited, WaitsOn, all_bytes}
use Rattle.nn_image.proofs.FrontCuts.{none_loaded, one_more}
use Rattle.nn_image.proofs.FrontImages.{open_on, torn_open, whole_text}

-- ---- A line's fault is never that the image has not ended.

-- an image, or a fault of one of its lines
abbrev Judged : {X : Type 0} → Result X ImageFault → Type 0
Judged r = r ≡ Err Truncated → ⊥

judged_then : {A B : Type 0} (r : Result A ImageFault) (f : A → Result B ImageFault) → Judged r → ((a : A) → Judged (f a)) → Judged (r then f)
judged_then (Ok a) f judged later = later a
judged_then (Err fault) f judged later = λ e. judged (let same : fault ≡ Truncated = cc in ap Err same)

judged_either : {X : Type 0} (b : Bool) (x y : Result X ImageFault) → Judged x → Judged y → Judged (cond b x y)
judged_either true x y first other = first
judged_either false x y first other = other

row_judged : (n : Namespace) (o : Option (Path × Form)) → Judged (with_next_row n o)
row_judged n None = λ e. absurd (cc)
row_judged n (Some row) =
    judged_either (is_lt (path_cmp (last_path n.rows) row.0)) (cond (row_fits n row.0 row.1) (Ok (with_rows n (n.rows ++ row ∷ []))) (Err (BadLine (next_line_number n)))) (Err (WrongOrder (next_line_number n)))
    (judged_either (row_fits n row.0 row.1) (Ok (with_rows n (n.rows ++ row ∷ []))) (Err (BadLine (next_line_number n))) (λ e. absurd (cc)) (λ e. absurd (cc))) (λ e. absurd (cc))

end_judged : (n : Namespace) (o : Option ℕ) (ps : List (List ℕ)) → Judged (nothing_more n ps) → Judged (at_end_line n o ps)
end_judged n None ps behind = λ e. absurd (cc)
end_judged n (Some count) ps behind = judged_either (count == (length n.rows - 1)) (nothing_more n ps) (Err CountMismatch) behind (λ e. absurd (cc))

module _ (n : Namespace) (ps : List (List ℕ)) (more : Namespace → Result Namespace ImageFault) (behind : Judged (nothing_more n ps)) (later : (m : Namespace) → Judged (more m)) where
  key_judged : (d : Data) (o : Option Data) → Judged (by_key n d ps more o)
  key_judged d None = judged_then (with_next_row n (row_of_line d)) more (row_judged n (row_of_line d)) later
  key_judged d (Some count) = end_judged n (whole_value count) ps behind

  value_judged : (o : Option Data) → Judged (by_value n ps more o)
  value_judged None = λ e. absurd (cc)
  value_judged (Some d) = key_judged d (get (codes "end") d)

fields_judged : (o : Option (Namespace × ℕ)) → Judged (ok_or o NotHeader)
fields_judged None = λ e. absurd (cc)
fields_judged (Some x) = λ e. absurd (cc)

version_judged : (d : Data) (o : Option ℕ) → Judged (of_version d o)
version_judged d None = λ e. absurd (cc)
version_judged d (Some version) =
    judged_either ((version == 1) || (version == 2)) (ok_or (fields_in version d) NotHeader) (Err BadVersion) (fields_judged (fields_in version d)) (λ e. absurd (cc))

header_judged : (o : Option Data) → Judged (of_header o)
header_judged None = λ e. absurd (cc)
header_judged (Some d) = version_judged d (number_under (codes "version") d)

-- a line that is not UTF-8 is no row
bad_row : (n : Namespace) → rows_from n ((255 ∷ []) ∷ [] ∷ []) ≡ Err (BadLine (next_line_number n))
unfolding rows_from object_of value_of_line is_utf8 chars
bad_row n = refl

rows_judged : (n : Namespace) → Judged (rows_from n ((255 ∷ []) ∷ [] ∷ []))
rows_judged n = λ e. let clash : Err (BadLine (next_line_number n)) ≡ Err Truncated = sym (bad_row n) ∙ e in absurd (cc)

more_judged : (n : Namespace) (line next : List ℕ) (ps : List (List ℕ)) → Judged (nothing_more n (line ∷ next ∷ ps))
more_judged n [] next ps = λ e. absurd (cc)
more_judged n (b ∷ line) next ps = λ e. absurd (cc)

line_judged : (old : Loading) (line : List ℕ) → fault_of_loading old ≡ None → Judged (loaded_from old (line ∷ (255 ∷ []) ∷ [] ∷ []))
unfolding all_from rows_from
line_judged at_header line none =
    judged_then (of_header (object_of line)) (λ head. rows_from head.0 ((255 ∷ []) ∷ [] ∷ []) then λ n. Ok (n, head.1)) (header_judged (object_of line))
    (λ head. judged_then (rows_from head.0 ((255 ∷ []) ∷ [] ∷ [])) (λ n. Ok (n, head.1)) (rows_judged head.0) (λ n e. absurd (cc)))
line_judged (in_rows n txid) line none =
    judged_then (by_value n ((255 ∷ []) ∷ [] ∷ []) (λ m. rows_from m ((255 ∷ []) ∷ [] ∷ [])) (object_of line)) (λ m. Ok (m, txid))
    (value_judged n ((255 ∷ []) ∷ [] ∷ []) (λ m. rows_from m ((255 ∷ []) ∷ [] ∷ [])) (more_judged n (255 ∷ []) [] []) rows_judged (object_of line)) (λ m e. absurd (cc))
line_judged (behind_end n txid) line none = judged_then (nothing_more n (line ∷ (255 ∷ []) ∷ [] ∷ [])) (λ m. Ok (m, txid)) (more_judged n line (255 ∷ []) ([] ∷ [])) (λ m e. absurd (cc))
line_judged (bad e) line none = absurd (cc)

abbrev JudgedFault : ImageFault → Type 0
JudgedFault fault = Judged {X = Namespace × ℕ} (Err fault)

fault_judged : (old new : Loading) (line : List ℕ) (fault : ImageFault) → TakesLine old new line → fault_of_loading old ≡ None → fault_of_loading new ≡ Some fault → JudgedFault fault
fault_judged old at_header line fault takes none is = absurd (cc)
fault_judged old (in_rows n txid) line fault takes none is = absurd (cc)
fault_judged old (behind_end n txid) line fault takes none is = absurd (cc)
fault_judged old (bad e) line fault takes none is = λ clash.
    let same : e ≡ fault = cc in
    line_judged old line none (takes (255 ∷ []) ([] ∷ []) ∙ ap Err same ∙ clash)

-- ---- Nor is that of an end line.

module _ (n : Namespace) where
  none_behind : Judged (nothing_more n ([] ∷ []))
  none_behind = λ e. absurd (cc)

  key_ends : (d : Data) (o : Option Data) → is_some o ≡ true → Judged (by_key n d ([] ∷ []) (λ m. rows_from m ([] ∷ [])) o)
  key_ends d None is = absurd (cc)
  key_ends d (Some count) is = end_judged n (whole_value count) ([] ∷ []) none_behind

  value_ends : (o : Option Data) → has_end o ≡ true → Judged (by_value n ([] ∷ []) (λ m. rows_from m ([] ∷ [])) o)
  value_ends None is = absurd (cc)
  value_ends (Some d) is = key_ends d (get (codes "end") d) is

module _ (line : List ℕ) where
  line_closes : (old : Loading) → fault_of_loading old ≡ None → ends_with old line ≡ true → Judged (loaded_from old (line ∷ [] ∷ []))
  unfolding rows_from is_end_line
  line_closes at_header none is = absurd (cc)
  line_closes (in_rows n txid) none is = judged_then (by_value n ([] ∷ []) (λ m. rows_from m ([] ∷ [])) (object_of line)) (λ m. Ok (m, txid)) (value_ends n (object_of line) is) (λ m e. absurd (cc))
  line_closes (behind_end n txid) none is = judged_then (nothing_more n (line ∷ [] ∷ [])) (λ m. Ok (m, txid)) (more_judged n line [] []) (λ m e. absurd (cc))
  line_closes (bad e) none is = absurd (cc)

  pub has_ended : (old new : Loading) → TakesLine old new line → fault_of_loading old ≡ None → ends_with old line ≡ true → Judged (loaded_from new ([] ∷ []))
  has_ended old new takes none is = λ e. line_closes old none is (takes [] [] ∙ e)

-- ---- Lines that are loaded.

take_none : (n : ℕ) → take {A = List ℕ} n [] ≡ []
take_none zero = refl
take_none (suc n) = refl

nothing_read : read_image [] ≡ Err Truncated
unfolding read_image all_from pieces_of
nothing_read = refl

none_wait : Waits []
none_wait n = ap (λ ls. read_image (joined_lines ls)) (take_none n) ∙ nothing_read

no_bytes_wait : IsWaiting []
no_bytes_wait = record { lines = []; torn = []; are = refl; each = refl; unbroken = refl; waits = none_wait }

-- and one line more
one_waits : (lines : List (List ℕ)) (line : List ℕ) → Waits lines → read_image (joined_lines (lines ++ line ∷ [])) ≡ Err Truncated → Waits (lines ++ line ∷ [])
one_waits lines line waits last n = by (cases_lt (length lines) n)
  where
    by : (length lines < n) ⊎ (n ≤ length lines) → read_image (joined_lines (take n (lines ++ line ∷ []))) ≡ Err Truncated
    by (inl all) = ap (λ ls. read_image (joined_lines ls)) (take_all n (lines ++ line ∷ []) (omega (arith, all, length-append lines (line ∷ [])))) ∙ last
    by (inr some) = ap (λ ls. read_image (joined_lines ls)) (take-append-le n lines (line ∷ []) some) ∙ waits n

fault_read : (l : Loading) (fault : ImageFault) → fault_of_loading l ≡ Some fault → loaded_from l ([] ∷ []) ≡ Err fault
fault_read at_header fault is = absurd (cc)
fault_read (in_rows n txid) fault is = absurd (cc)
fault_read (behind_end n txid) fault is = absurd (cc)
fault_read (bad e) fault is = let same : e ≡ fault = cc in ap Err same

-- where none has ended
pub still_waits : (bytes : List ℕ) (l mid : Lines) (x : Loading) → IsCutTo all_bytes l mid → WaitsOn bytes l x → WaitsOn bytes mid x
still_waits bytes l mid x cut h = record { lines = h.lines; come = cut bytes h.lines h.come; loaded = h.loaded; waits = h.waits; unended = h.unended; well = h.well }

module _ (l mid : Lines) (p : Place) (x y : Loading) (text : List ℕ) (ends : (bytes : List ℕ) (lines : List (List ℕ)) → HasCome all_bytes bytes lines l → HasEnded all_bytes bytes lines p mid)
    (is : text ≡ line_text mid p) (few : length text < 2 ^ 63) (takes : TakesLine x y text) (bytes : List ℕ) (h : WaitsOn bytes l x) where
  abbrev ended : HasEnded all_bytes bytes h.lines p mid
  ended = ends bytes h.lines h.come

  begins_next : IsFresh mid
  begins_next = ended_fresh all_bytes bytes h.lines p mid ended

  text_is : text ≡ ended.line
  text_is = is ∙ whole_text all_bytes ended.line (line_text mid p) (line_blank mid p) (omega arith) ended.text (subst (λ t. length t < 2 ^ 63) is few)

  abbrev lines : List (List ℕ)
  lines = h.lines ++ ended.line ∷ []

  all_loaded : (more : List ℕ) → read_image (joined_lines lines ++ more) ≡ loaded_from y (pieces_of more)
  all_loaded more =
      ap (λ t. read_image (t ++ more)) (joined_more h.lines ended.line ∙ sym (append_assoc (joined_lines h.lines) ended.line (line_feed ∷ [])))
      ∙ one_more (joined_lines h.lines) ended.line x y ended.unbroken (subst (TakesLine x y) text_is takes) h.loaded more

  all_read : read_image (joined_lines lines) ≡ loaded_from y ([] ∷ [])
  all_read = ap read_image (sym (append-nil (joined_lines lines))) ∙ all_loaded [] ∙ ap (loaded_from y) (only_piece [] refl)

  -- it waits further
  pub line_waits : ends_with x text ≡ false → fault_of_loading y ≡ None → WaitsOn bytes mid y
  line_waits goes well =
      let unended = open_on x y text takes goes h.unended in
      record {
        lines = lines;
        come = ended.come;
        loaded = all_loaded;
        waits = one_waits h.lines ended.line h.waits (all_read ∙ torn_open y unended well []);
        unended = unended;
        well = well;
      }

  judged_by : (loaded_from y ([] ∷ []) ≡ Err Truncated → ⊥) → HasJudged bytes mid y
  judged_by told = record {
    is = record {
      before = h.lines;
      line = ended.line;
      are = lines_come all_bytes bytes lines mid (omega arith) begins_next ended.come;
      each = ended.come.each;
      waits = h.waits;
      read = all_read;
      told = told;
    };
    fresh = begins_next;
  }

  -- the image ends with the line
  pub line_ends : ends_with x text ≡ true → HasJudged bytes mid y
  line_ends last = judged_by (has_ended text x y takes h.well last)

  -- or the line is refused
  pub line_refused : (fault : ImageFault) → fault_of_loading y ≡ Some fault → HasJudged bytes mid y
  line_refused fault has = judged_by (λ e. fault_judged x y text fault takes h.well has (sym (fault_read y fault has) ∙ e))

-- ---- Reads.

as_waiting : (bytes : List ℕ) (l : Lines) (x : Loading) → ahead l ≡ [] → WaitsOn bytes l x → IsWaiting bytes
as_waiting bytes l x none h = record {
  lines = h.lines;
  torn = h.come.torn;
  are = h.come.joined ∙ ap (λ t. joined_lines h.lines ++ (h.come.torn ++ t)) none ∙ ap (λ t. joined_lines h.lines ++ t) (append-nil h.come.torn);
  each = h.come.each;
  unbroken = h.come.unbroken;
  waits = h.waits;
}

pub begin_waiting : (r : Reader) (l : Lines) → IsFresh l → ahead l ≡ [] → HasWaited r r l at_header
begin_waiting r l fresh none = record {
  bytes = [];
  came = none_came r;
  on = record { lines = []; come = subst (λ t. HasCome all_bytes t [] l) none (come_ahead all_bytes l fresh); loaded = none_loaded; waits = none_wait; unended = tt; well = refl };
  until = record { earlier = []; last = []; are = refl; waiting = no_bytes_wait; one_read = omega arith };
}

module _ (before a : Reader) (l mid : Lines) (x y : Loading) (h : HasWaited before a l x) (goes : (bytes : List ℕ) → WaitsOn bytes l x → WaitsOn bytes mid y) (none : ahead mid ≡ []) where
  pub more_waited : (b : Reader) (new : Lines) → Refilled a b mid new → length (ahead new) ≤ 2 ^ 16 → HasWaited before b new y
  more_waited b new r few =
      let k = goes h.bytes h.on in
      record {
        bytes = h.bytes ++ r.bytes;
        came = come_both before a b h.bytes r.bytes h.came r.came;
        on = record { lines = k.lines; come = comes_ahead all_bytes h.bytes r.bytes k.lines mid new none r.are r.torn k.come; loaded = k.loaded; waits = k.waits; unended = k.unended; well = k.well };
        until = record { earlier = h.bytes; last = r.bytes; are = refl; waiting = as_waiting h.bytes mid y none k; one_read = omega (arith, few, ap length r.are) };
      }

  pub ends_waiting : (b : Reader) (next new : Lines) → Refilled a b mid next → length (ahead next) ≤ 2 ^ 16 → ahead next ≡ [] → IsAtEnd b.left → IsFresh new → ahead new ≡ ahead next → LoadedAtOnce (Err Truncated) before b new
  ends_waiting b next new r few still at_end fresh same =
      let k = more_waited b next r few in
      record {
        bytes = k.bytes;
        came = k.came;
        until = k.until;
        is = inr (record { none = same ∙ still; end = at_end; waiting = as_waiting k.bytes next y still k.on; told = refl });
        fresh = fresh;
      }

  pub fails_waiting : (b : Reader) → Keeps a.left b.left → FailedToReadOn a b → FailsWaiting before b
  fails_waiting b kept failed = record {
    bytes = h.bytes;
    got = Consumes-kept before.left a.left b.left h.bytes h.came.got kept;
    counted = failed.counted ∙ h.came.counted;
    waiting = as_waiting h.bytes mid y none (goes h.bytes h.on);
    noted = failed.noted;
    why = by failed.why;
  }
    where
      by : IsRefusal a b → (b.refused ≡ true) ⊎ ((before.failed ≡ true) ⊎ (2 ^ 62 ≤ b.given))
      by (inl refused) = inl refused
      by (inr (inl earlier)) = inr (inl (sym h.came.unfailed ∙ earlier))
      by (inr (inr many)) = inr (inr (omega (arith, many, failed.counted)))

pub judged_at_once : (before a : Reader) (l mid new : Lines) (x y : Loading) (loaded : Result (Namespace × ℕ) ImageFault) → HasWaited before a l x → ((bytes : List ℕ) → WaitsOn bytes l x → HasJudged bytes mid y)
    → loaded ≡ loaded_from y ([] ∷ []) → IsFresh new → ahead new ≡ ahead mid → LoadedAtOnce loaded before a new
judged_at_once before a l mid new x y loaded h judge is fresh same =
    let k = judge h.bytes h.on in
    record {
      bytes = h.bytes;
      came = h.came;
      until = h.until;
      is = inl (subst (λ r. IsJudged r h.bytes (ahead new)) (sym is) (subst (IsJudged (loaded_from y ([] ∷ [])) h.bytes) (sym same) k.is));
      fresh = fresh;
    }
