-- Lines of known bytes as pieces of their text.
use Rattle.std.proofs.Common.{◌≡◌, ℕ, ◌+◌, ◌-◌, ◌<◌, ◌≤◌, ◌^◌, List, [], ◌∷◌, ◌++◌, length, Bool, true, false, cond, eqb, Option, Some, None, Result, Ok, Err, inl, inr, refl, sym, ap, ◌∙◌, arith, append-nil, append_assoc, subst}
use Rattle.std.specs.Io.KnownBytes.{Consumes, IsAtEnd}
use Rattle.nn_image.specs.Reading.{of_header, pieces_of, object_of, all_from, rows_from, last_path, next_line_number, at_end_line, nothing_more, with_next_row, read_image, ◌then◌}
use Rattle.std.proofs.lemmas.Bool.Decides.{Decides-eqb}
use Rattle.std.specs.Prelude.{IsTrue, IfOk, IfErr}
use Rattle.std.specs.FinMap.Entries.{is_sorted}
use Rattle.std.proofs.lemmas.Bool.{false≢true}
use Rattle.nn_model.specs.Namespace.{path_cmp}
use Rattle.nn_model.specs.declared.form.Form.{Form}
use Rattle.nn_model.specs.Namespace.{Path, Issued, Namespace}
use Rattle.nn_image.specs.declared.row_line.RowLine.{RowLine}
use Rattle.nn_image.specs.declared.row_line.RowLine.TheVariants.{Row, End, Bad}
use Rattle.nn_tree.specs.Restore.{bare}
use Rattle.nn_bytes.specs.Lines.{line_feed}
use Rattle.nn_bytes.specs.Pieces.{is_unbroken, joined_lines}
use Rattle.nn_bytes.proofs.PieceLemmas.{cut_first, joined_more, one_piece}
use Rattle.nn_device.specs.Device.{Reader}
use Rattle.nn_input.specs.Cut.{Came, HasCome, HasEnded, Lines, NextEnded, ReadOn, ahead, line_text}
use Rattle.nn_input.specs.declared.lines.Place.{Place}
use Rattle.nn_input.proofs.Cuts.{come_both, none_came, whole_line, whole_torn}
use Rattle.nn_image.specs.declared.fault.ImageFault.{ImageFault}
use Rattle.nn_image.specs.declared.fault.ImageFault.TheVariants.{NotHeader, BadLine, WrongOrder, CountMismatch, Truncated, BadVersion, ReadFault, OutOfMemory}
use Rattle.nn_image.specs.Outcome.{ImageFails, IsOfDevice, IsNoRead, Noted}
use Rattle.nn_image.specs.Loading.{LoadFails, GivesAtEnd, with_txid, Loading, at_header, in_rows, behind_end, refused, loaded_from, TakesLine, fault_of_loading, by_read, IsReadAs, IsBegun, rows_left, state_of, TakesRow, IsLoadingOf, StopsAtLine, StopsSoon}
use Rattle.nn_image.specs.Lawful.{HasPaths}
use Rattle.nn_image.specs.declared.loading.Begun.{Begun}
use Rattle.nn_image.specs.declared.loading.Stage.TheVariants as stage
use Rattle.nn_image.proofs.PathsRead.{bare_paths}
use Rattle.nn_image.proofs.Round.{some_piece}

pub piece : (line left : List ℕ) → is_unbroken line ≡ true → pieces_of (line ++ line_feed ∷ left) ≡ line ∷ pieces_of left
unfolding pieces_of
piece line left whole = cut_first line left whole

pub only_piece : (line : List ℕ) → is_unbroken line ≡ true → pieces_of line ≡ line ∷ []
unfolding pieces_of
only_piece line whole = one_piece line whole

-- ---- faults

pub fails_on : {X Y : Type 0} (e : ImageFault) (r : Result X ImageFault) (s : Result Y ImageFault) → (r ≡ Err e → s ≡ Err e) → ImageFails e r → ImageFails e s
fails_on NotHeader r s h f = h f
fails_on (BadLine n) r s h f = h f
fails_on (WrongOrder n) r s h f = h f
fails_on CountMismatch r s h f = h f
fails_on Truncated r s h f = h f
fails_on BadVersion r s h f = h f
fails_on ReadFault r s h f = tt
fails_on OutOfMemory r s h f = tt

pub fails_so : {X : Type 0} (e : ImageFault) (r : Result X ImageFault) → r ≡ Err e → ImageFails e r
fails_so NotHeader r is = is
fails_so (BadLine n) r is = is
fails_so (WrongOrder n) r is = is
fails_so CountMismatch r is = is
fails_so Truncated r is = is
fails_so BadVersion r is = is
fails_so ReadFault r is = tt
fails_so OutOfMemory r is = tt

pub device_stops : {X : Type 0} (e : ImageFault) (r : Result X ImageFault) → IsOfDevice e → ImageFails e r
device_stops e r (inl is) = subst (λ e. ImageFails e r) (sym is) tt
device_stops e r (inr is) = subst (λ e. ImageFails e r) (sym is) tt

-- a fault that is of no device is just the one
pub just_fails : {X : Type 0} (e : ImageFault) (r : Result X ImageFault) → (e ≡ OutOfMemory → ⊥) → IsNoRead e → ImageFails e r → r ≡ Err e
just_fails NotHeader r memory read f = f
just_fails (BadLine n) r memory read f = f
just_fails (WrongOrder n) r memory read f = f
just_fails CountMismatch r memory read f = f
just_fails Truncated r memory read f = f
just_fails BadVersion r memory read f = f
just_fails ReadFault r memory read f = absurd read
just_fails OutOfMemory r memory read f = absurd (memory refl)

pub noted_by_none : (e : ImageFault) (before after : Bool) → IsNoRead e → after ≡ before → Noted e before after
noted_by_none NotHeader before after none same = same
noted_by_none (BadLine n) before after none same = same
noted_by_none (WrongOrder n) before after none same = same
noted_by_none CountMismatch before after none same = same
noted_by_none Truncated before after none same = same
noted_by_none BadVersion before after none same = same
noted_by_none ReadFault before after none same = absurd none
noted_by_none OutOfMemory before after none same = same

-- ---- the header

module _ (line : List ℕ) where
  pub bad_header : (e : ImageFault) → of_header (object_of line) ≡ Err e → TakesLine at_header (refused e) line
  unfolding all_from
  bad_header e is next pieces = rw is refl

  pub header : (n : Namespace) (txid : ℕ) → of_header (object_of line) ≡ Ok (n, txid) → TakesLine at_header (in_rows n txid) line
  unfolding all_from
  header n txid is next pieces = rw is refl

pub bare_begins : (b : Begun) (issued : Issued) → b.namespace ≡ bare issued → b.before ≡ [] → b.number ≡ 2 → b.has_ended ≡ false → IsBegun b
bare_begins b issued is root two more = record {
  loading = record { sorted = subst (λ (n : Namespace). IsTrue (is_sorted path_cmp n.rows)) (sym is) refl; last = ap (λ (n : Namespace). last_path n.rows) is ∙ sym root; at = ap next_line_number is ∙ sym two };
  from = omega (arith, two);
  paths = subst HasPaths (sym is) (bare_paths issued);
  counted = λ ended. absurd (false≢true (sym more ∙ ended));
}

-- ---- the lines behind it

rows_not_ended : (b : Begun) (pieces : List (List ℕ)) → b.has_ended ≡ false → rows_left b pieces ≡ rows_from b.namespace pieces
rows_not_ended b pieces more = ap (λ t. cond t (nothing_more b.namespace pieces) (rows_from b.namespace pieces)) more

rows_ended : (b : Begun) (pieces : List (List ℕ)) → b.has_ended ≡ true → rows_left b pieces ≡ nothing_more b.namespace pieces
rows_ended b pieces ended = ap (λ t. cond t (nothing_more b.namespace pieces) (rows_from b.namespace pieces)) ended

-- a line that was read, where the end line has not come
as_read : (b : Begun) (read : RowLine) (line next : List ℕ) (pieces : List (List ℕ)) → b.has_ended ≡ false → IsReadAs line read
    → rows_left b (line ∷ next ∷ pieces) ≡ by_read b.namespace (next ∷ pieces) (λ m. rows_from m (next ∷ pieces)) read
unfolding rows_from
as_read b read line next pieces more is = rows_not_ended b (line ∷ next ∷ pieces) more ∙ is b.namespace (next ∷ pieces) (λ m. rows_from m (next ∷ pieces))

pub behind_the_end : (b : Begun) (read : RowLine) → b.has_ended ≡ true → b.number ≡ next_line_number b.namespace → TakesRow b b read (Some (BadLine (b.number + 1)))
behind_the_end b read ended at line next pieces is = rows_ended b (line ∷ next ∷ pieces) ended ∙ more line ∙ ap (λ k. Err (BadLine (k + 1))) (sym at)
  where
    more : (line : List ℕ) → nothing_more b.namespace (line ∷ next ∷ pieces) ≡ Err (BadLine (next_line_number b.namespace + 1))
    more [] = refl
    more (x ∷ xs) = refl

count_is : (n : Namespace) (number count : ℕ) → next_line_number n ≡ number → count ≡ number - 2 → eqb count (length n.rows - 1) ≡ true
count_is n number count at e = (Decides-eqb count (length n.rows - 1)).1 (omega arith)

pub count_not : (n : Namespace) (number count : ℕ) (pieces : List (List ℕ)) → next_line_number n ≡ number → (count ≡ number - 2 → ⊥) → at_end_line n (Some count) pieces ≡ Err CountMismatch
count_not n number count pieces at h = test (eqb count (length n.rows - 1)) refl
  where
    test : (t : Bool) → eqb count (length n.rows - 1) ≡ t → cond t (nothing_more n pieces) (Err CountMismatch) ≡ Err CountMismatch
    test true e = let same : count ≡ length n.rows - 1 = (Decides-eqb count (length n.rows - 1)).0 e in absurd (h (omega arith))
    test false e = refl

module _ (b : Begun) (more : b.has_ended ≡ false) where
  pub bad_row : b.number ≡ next_line_number b.namespace → TakesRow b b Bad (Some (BadLine b.number))
  bad_row at line next pieces is = as_read b Bad line next pieces more is ∙ ap (λ k. Err (BadLine k)) (sym at)

  pub row_fails : (path : Path) (form : Form) (e : ImageFault) → with_next_row b.namespace (Some (path, form)) ≡ Err e → TakesRow b b (Row path form) (Some e)
  row_fails path form e fails line next pieces is =
      as_read b (Row path form) line next pieces more is ∙ ap (λ r. r then (λ m. rows_from m (next ∷ pieces))) fails

  pub row_added : (c : Begun) (path : Path) (form : Form) → with_next_row b.namespace (Some (path, form)) ≡ Ok c.namespace → c.has_ended ≡ false → TakesRow b c (Row path form) None
  row_added c path form fits later line next pieces is =
      as_read b (Row path form) line next pieces more is ∙ ap (λ r. r then (λ m. rows_from m (next ∷ pieces))) fits ∙ sym (rows_not_ended c (next ∷ pieces) later)

  pub end_fails : (count : Option ℕ) (e : ImageFault) → ((pieces : List (List ℕ)) → at_end_line b.namespace count pieces ≡ Err e) → TakesRow b b (End count) (Some e)
  end_fails count e fails line next pieces is = as_read b (End count) line next pieces more is ∙ fails (next ∷ pieces)

  pub end_taken : (c : Begun) (count : ℕ) → next_line_number b.namespace ≡ b.number → count ≡ b.number - 2 → c.namespace ≡ b.namespace → c.has_ended ≡ true → TakesRow b c (End (Some count)) None
  end_taken c count at same kept ended line next pieces is =
      as_read b (End (Some count)) line next pieces more is
      ∙ rw (count_is b.namespace b.number count at same) refl
      ∙ ap (λ n. nothing_more n (next ∷ pieces)) (sym kept) ∙ sym (rows_ended c (next ∷ pieces) ended)

-- ---- all lines

begun_is : (b : Begun) (pieces : List (List ℕ)) → loaded_from (state_of (stage.Begun b)) pieces ≡ with_txid b.txid (rows_left b pieces)
begun_is b pieces = at b.has_ended
  where
    at : (t : Bool) → loaded_from (cond t (behind_end b.namespace b.txid) (in_rows b.namespace b.txid)) pieces ≡ with_txid b.txid (cond t (nothing_more b.namespace pieces) (rows_from b.namespace pieces))
    at true = refl
    at false = refl

pub line_taken : (b c : Begun) (read : RowLine) (line : List ℕ) → IsReadAs line read → c.txid ≡ b.txid → TakesRow b c read None → TakesLine (state_of (stage.Begun b)) (state_of (stage.Begun c)) line
line_taken b c read line is same taken next pieces =
    begun_is b (line ∷ next ∷ pieces) ∙ ap (with_txid b.txid) (taken line next pieces is) ∙ ap (λ t. with_txid t (rows_left c (next ∷ pieces))) (sym same) ∙ sym (begun_is c (next ∷ pieces))

pub line_refused : (b c : Begun) (read : RowLine) (line : List ℕ) (e : ImageFault) → IsReadAs line read → TakesRow b c read (Some e) → TakesLine (state_of (stage.Begun b)) (refused e) line
line_refused b c read line e is taken next pieces = begun_is b (line ∷ next ∷ pieces) ∙ ap (with_txid b.txid) (taken line next pieces is)

pub torn_header : (torn : List ℕ) → Err Truncated ≡ loaded_from at_header (torn ∷ [])
unfolding all_from
torn_header torn = refl

pub torn_rows : (b : Begun) (torn : List ℕ) → b.has_ended ≡ false → Err Truncated ≡ loaded_from (state_of (stage.Begun b)) (torn ∷ [])
unfolding rows_from
torn_rows b torn more = sym (begun_is b (torn ∷ []) ∙ ap (with_txid b.txid) (rows_not_ended b (torn ∷ []) more))

pub torn_end : (b : Begun) (torn : List ℕ) → b.has_ended ≡ true → (torn ≡ [] → ⊥) → Err Truncated ≡ loaded_from (state_of (stage.Begun b)) (torn ∷ [])
torn_end b torn ended some = sym (begun_is b (torn ∷ []) ∙ ap (with_txid b.txid) (rows_ended b (torn ∷ []) ended ∙ last torn some))
  where
    last : (torn : List ℕ) → (torn ≡ [] → ⊥) → nothing_more b.namespace (torn ∷ []) ≡ Err Truncated
    last [] some = absurd (some refl)
    last (x ∷ xs) some = refl

pub whole_end : (b : Begun) (torn : List ℕ) → b.has_ended ≡ true → torn ≡ [] → Ok (b.namespace, b.txid) ≡ loaded_from (state_of (stage.Begun b)) (torn ∷ [])
whole_end b torn ended none = sym (begun_is b (torn ∷ []) ∙ ap (with_txid b.txid) (rows_ended b (torn ∷ []) ended ∙ ap (λ t. nothing_more b.namespace (t ∷ [])) none))

-- ---- a reader's lines

abbrev pub whole : ℕ
whole = 2 ^ 64 - 1

-- these bytes were read, and this is what their lines have come to, without a fault
pub record HasLoaded (before now : Reader) (lines : Lines) (l : Loading) : Type 0 where
  pub bytes : List ℕ
  pub came : Came before now bytes
  pub ended : List (List ℕ)
  pub come : HasCome whole bytes ended lines
  pub loads : IsLoadingOf ended l
  pub sound : fault_of_loading l ≡ None

pub none_loaded : (r : Reader) (lines : Lines) → ((most : ℕ) → HasCome most [] [] lines) → HasLoaded r r lines at_header
unfolding read_image
none_loaded r lines none = record {
  bytes = [];
  came = none_came r;
  ended = [];
  come = none whole;
  loads = λ more. refl;
  sound = refl;
}

-- bytes that are counted are fewer than a line may have
counted_within : (before now : Reader) (bytes : List ℕ) → now.given < 2 ^ 62 + 2 ^ 63 → Came before now bytes → length bytes ≤ whole
counted_within before now bytes bounded came = omega (arith, bounded, came.counted)

-- a line more was taken
one_more : (ended : List (List ℕ)) (line : List ℕ) (l m : Loading) → is_unbroken line ≡ true → TakesLine l m line → IsLoadingOf ended l → IsLoadingOf (ended ++ line ∷ []) m
one_more ended line l m whole takes loads more =
    ap read_image
    (ap (λ t. t ++ more) (joined_more ended line)
    ∙ append_assoc (joined_lines ended) (line ++ line_feed ∷ []) more
    ∙ ap (λ t. joined_lines ended ++ t) (append_assoc line (line_feed ∷ []) more))
    ∙ loads (line ++ line_feed ∷ more) ∙ ap (loaded_from l) (piece line more whole) ∙ turn (pieces_of more) (some_piece more)
  where
    turn : (pieces : List (List ℕ)) → (pieces ≡ [] → ⊥) → loaded_from l (line ∷ pieces) ≡ loaded_from m pieces
    turn [] some = absurd (some refl)
    turn (next ∷ pieces) some = takes next pieces

refused_is : (l : Loading) (e : ImageFault) (pieces : List (List ℕ)) → fault_of_loading l ≡ Some e → loaded_from l pieces ≡ Err e
refused_is at_header e pieces is = absurd (cc)
refused_is (in_rows n txid) e pieces is = absurd (cc)
refused_is (behind_end n txid) e pieces is = absurd (cc)
refused_is (refused f) e pieces is = let same : f ≡ e = cc in ap Err same

-- at the end there is no other fault
torn_fault : (l : Loading) (torn : List ℕ) (e : ImageFault) → fault_of_loading l ≡ None → loaded_from l (torn ∷ []) ≡ Err e → e ≡ Truncated
unfolding all_from rows_from
torn_fault at_header torn e sound is = cc
torn_fault (in_rows n txid) torn e sound is = cc
torn_fault (behind_end n txid) [] e sound is = absurd (cc)
torn_fault (behind_end n txid) (b ∷ torn) e sound is = cc
torn_fault (refused f) torn e sound is = absurd (cc)

-- the bytes that were taken, and those that are left
known : (old new : Option (List ℕ)) (bytes text : List ℕ) → Consumes old new bytes → old ≡ Some text → (left : List ℕ) × (new ≡ Some left) × (text ≡ bytes ++ left)
known None new bytes text h e = absurd (cc)
known (Some xs) None bytes text h e = absurd h
known (Some xs) (Some ys) bytes text h e = let same : xs ≡ text = cc in (ys, refl, sym same ∙ h)

at_end_is : (new : Option (List ℕ)) (left : List ℕ) → IsAtEnd new → new ≡ Some left → left ≡ []
at_end_is None left h e = absurd (cc)
at_end_is (Some xs) left h e = let same : xs ≡ left = cc in sym same ∙ h

-- the next line of a reader ends
module _ (before now after : Reader) (lines lines' : Lines) (p : Place) (l m : Loading) (text : List ℕ) (bounded : after.given < 2 ^ 62 + 2 ^ 63)
    (so_far : HasLoaded before now lines l) (next : NextEnded whole now after lines lines' p) (is : text ≡ line_text lines' p) (takes : TakesLine l m text) where
  abbrev read : List ℕ
  read = so_far.bytes ++ next.bytes

  abbrev came : Came before after read
  came = come_both before now after so_far.bytes next.bytes so_far.came next.came

  abbrev ended : HasEnded whole read so_far.ended p lines'
  ended = next.ended so_far.bytes so_far.ended so_far.come

  text_is : text ≡ ended.line
  text_is = is ∙ whole_line whole read so_far.ended p lines' ended (counted_within before after read bounded came)

  loads : IsLoadingOf (so_far.ended ++ ended.line ∷ []) m
  loads = one_more so_far.ended ended.line l m ended.unbroken (subst (TakesLine l m) text_is takes) so_far.loads

  pub line_loaded : fault_of_loading m ≡ None → HasLoaded before after lines' m
  line_loaded sound = record { bytes = read; came = came; ended = so_far.ended ++ ended.line ∷ []; come = ended.come; loads = loads; sound = sound }

  line_refuses : (e : ImageFault) → fault_of_loading m ≡ Some e → (more : List ℕ) → read_image (joined_lines (so_far.ended ++ ended.line ∷ []) ++ more) ≡ Err e
  line_refuses e bad more = loads more ∙ refused_is m e (pieces_of more) bad

  abbrev behind : List ℕ
  behind = ended.come.torn ++ ahead lines'

  pub line_stops : (e : ImageFault) → fault_of_loading m ≡ Some e → LoadFails before.left e read_image
  line_stops e bad text there =
      let k = known before.left after.left read text came.got there in
      fails_so e (read_image text) (ap read_image (k.2 ∙ ap (λ t. t ++ k.0) ended.come.joined ∙ append_assoc (joined_lines (so_far.ended ++ ended.line ∷ [])) behind k.0) ∙ line_refuses e bad (behind ++ k.0))

  pub stops_there : (e : ImageFault) → fault_of_loading m ≡ Some e → length (ahead lines') ≤ 2 ^ 16 → StopsAtLine before after e
  stops_there e bad few = record {
    earlier = so_far.ended;
    line = ended.line;
    behind = behind;
    loading = l;
    came = subst (Came before after) ended.come.joined came;
    few = omega (arith, few, ap length (ap (λ t. t ++ ahead lines') ended.begins));
    unbroken = ended.unbroken;
    loads = so_far.loads;
    sound = so_far.sound;
    refused = line_refuses e bad;
  }

-- the bytes end
module _ (before now after : Reader) (lines lines' : Lines) (l : Loading) (torn : List ℕ) (bounded : after.given < 2 ^ 62 + 2 ^ 63)
    (so_far : HasLoaded before now lines l) (on : ReadOn whole now after lines lines') (end : IsAtEnd after.left) (none : ahead lines' ≡ []) (is : torn ≡ lines'.torn.kept) where
  abbrev all_read : List ℕ
  all_read = so_far.bytes ++ on.bytes

  abbrev all_came : Came before after all_read
  all_came = come_both before now after so_far.bytes on.bytes so_far.came on.came

  abbrev all_come : HasCome whole all_read so_far.ended lines'
  all_come = on.goes_on so_far.bytes so_far.ended so_far.come

  torn_is : torn ≡ all_come.torn
  torn_is = is ∙ whole_torn whole all_read so_far.ended lines' all_come (counted_within before after all_read bounded all_came)

  torn_read : (text : List ℕ) → before.left ≡ Some text → read_image text ≡ loaded_from l (torn ∷ [])
  torn_read text there =
      let k = known before.left after.left all_read text all_came.got there in
      ap read_image
      (k.2 ∙ ap (λ left. all_read ++ left) (at_end_is after.left k.0 end k.1) ∙ append-nil all_read ∙ all_come.joined
      ∙ ap (λ a. joined_lines so_far.ended ++ (all_come.torn ++ a)) none
      ∙ ap (λ t. joined_lines so_far.ended ++ t) (append-nil all_come.torn))
      ∙ so_far.loads all_come.torn ∙ ap (loaded_from l) (only_piece all_come.torn all_come.unbroken ∙ ap (λ t. t ∷ []) (sym torn_is))

  pub all_loaded : (r : Result (Namespace × ℕ) ImageFault) → r ≡ loaded_from l (torn ∷ []) → IfOk r (λ i. GivesAtEnd before.left after.left read_image i)
  all_loaded (Ok i) is = λ text there. (torn_read text there ∙ sym is, end)
  all_loaded (Err e) is = tt

  pub none_loads : (r : Result (Namespace × ℕ) ImageFault) → r ≡ loaded_from l (torn ∷ []) → IfErr r (λ e. LoadFails before.left e read_image)
  none_loads (Ok i) is = tt
  none_loads (Err e) is = λ text there. fails_so e (read_image text) (torn_read text there ∙ sym is)

  pub ends_soon : (r : Result (Namespace × ℕ) ImageFault) → r ≡ loaded_from l (torn ∷ []) → IfErr r (StopsSoon before after)
  ends_soon (Ok i) is = tt
  ends_soon (Err e) is = inr (inl (torn_fault l torn e so_far.sound (sym is), end))

  pub end_unfailed : after.failed ≡ before.failed
  end_unfailed = all_came.unfailed
