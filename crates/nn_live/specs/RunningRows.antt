-- What a service wrote beside what its reader gave, on small examples.
use Rattle.std.specs.Prelude.{◌≡◌, ◌⊎◌, ◌≤◌, ◌<◌, ◌^◌, ℕ, zero, suc, take, ◌+◌, Bool, true, false, List, [], ◌∷◌, ◌++◌, length, Some, codes, refl}
use Rattle.std.proofs.Common.{arith, ap, ap₂, append-nil, get_or, inl, inr, length-append, sym, true≢false, ◌∙◌}
use Rattle.std.proofs.Math.Seq.{take-append_seam}
use Rattle.std.proofs.lemmas.List.{append_cancel_left, append_cancel_right}
use Rattle.std.specs.Fmt.{digits}
use Rattle.std.specs.Str.{is_utf8, chars}
use Rattle.nn_bytes.specs.Lines.{line_feed}
use lib.Utf8.{encode}
use Rattle.nn_device.specs.Device.{Reader, Writer}
use Rattle.nn_live.specs.Live.{takes, takes_pieces, takes_torn, told_so_far}
use Rattle.nn_live.specs.Running.{LiveOutput, IsOfFailedRead, IsOfNoMemory, IsOfRefused, IsOfWhole, IsSoFar, IsToldAtOnce, IsUntaken, LacksEnd, WroteLive, WroteLivePrefix, asked_by, live_output, lines_say, serving_by, torn_of}
use Rattle.nn_live.specs.Serving.{IsPrefixOf}
use Rattle.nn_live.specs.Taking.{LacksLine}
use Rattle.nn_live.specs.Words.{word_alone, word_in}
use Rattle.nn_live.specs.declared.run.LiveOptions.{LiveOptions}

abbrev sync : List ℕ
sync = codes "sync" ++ line_feed ∷ []

abbrev done : List ℕ
done = codes "done 1" ++ line_feed ∷ []

-- a reader that has these bytes, of five
abbrev reader : List ℕ → ℕ → Bool → Reader
reader left given failed = record { left = Some left; reads = 0; given = given; failed = failed; refused = failed }

abbrev unread : Reader
unread = reader sync 0 false

abbrev at_its_end : Reader
at_its_end = reader [] 5 false

abbrev printed : List ℕ → ℕ → LiveOutput
printed text status = record { text = text; status = status }

none_behind : (a b : List ℕ) → a ≡ a ++ b → b ≡ []
none_behind a b e = sym (append_cancel_left a [] b (append-nil a ∙ e))

shorter : (taken left : List ℕ) → sync ≡ taken ++ left → (left ≡ [] → ⊥) → length taken < 5
shorter taken [] cut some = absurd (some refl)
shorter taken (b ∷ left) cut some = omega (arith, ap length cut, length-append taken (b ∷ left))

-- ---- A line that was not taken, where each byte says itself.

abbrev lacks : List ℕ → List ℕ → Type 0
lacks bytes told = LacksLine (λ b. b) bytes told

the_second : lacks (7 ∷ 8 ∷ []) (7 ∷ [])
the_second = record {
  taken = 7 ∷ [];
  left = 8 ∷ [];
  are = refl;
  some = λ e. absurd (cc);
  part = [];
  begins = refl;
  cut = record { rest = 8 ∷ []; is = refl; short = λ e. absurd (cc) };
}

-- not all of it was told
half_of_the_first : lacks (7 ∷ 8 ∷ []) (7 ∷ [])
half_of_the_first = record {
  taken = [];
  left = 7 ∷ 8 ∷ [];
  are = refl;
  some = λ e. absurd (cc);
  part = 7 ∷ [];
  begins = refl;
  cut = record { rest = 8 ∷ []; is = refl; short = λ e. absurd (cc) };
}

not_all : (bytes : List ℕ) → lacks bytes bytes → ⊥
not_all bytes l =
    let rest : l.cut.rest ≡ [] = none_behind bytes l.cut.rest (l.cut.is ∙ ap (λ t. t ++ l.cut.rest) (sym l.begins)) in
    l.some (none_behind l.taken l.left (sym (append-nil l.taken) ∙ ap (λ t. l.taken ++ t) (sym (l.cut.short rest)) ∙ sym l.begins ∙ l.are))

not_of_none : (told : List ℕ) → lacks [] told → ⊥
not_of_none told l = at l.taken l.left l.some l.are
  where
    at : (taken left : List ℕ) → (left ≡ [] → ⊥) → [] ≡ taken ++ left → ⊥
    at [] left some e = some (sym e)
    at (b ∷ taken) left some e = absurd (cc)

no_other_text : lacks (7 ∷ []) (8 ∷ []) → ⊥
no_other_text l = let e : 7 ∷ [] ≡ 8 ∷ l.cut.rest = l.cut.is ∙ ap (λ t. t ++ l.cut.rest) (sym l.begins) in omega (arith, ap (λ t. get_or t 0 0) e)

-- a line that says nothing was not taken, and nothing was told of it
of_a_silent_one : LacksLine (λ b. []) (7 ∷ []) []
of_a_silent_one = record {
  taken = [];
  left = 7 ∷ [];
  are = refl;
  some = λ e. absurd (cc);
  part = [];
  begins = refl;
  cut = record { rest = []; is = refl; short = λ e. refl };
}

module _ (o : LiveOptions) where
  -- it begins with the root alone
  abbrev root : LiveOptions
  root = record o { from_image = false }

  -- ---- The text of an input, before and behind its end.

  one_answer : live_output root sync ≡ printed done 0
  unfolding takes takes_pieces takes_torn word_in word_alone is_utf8 chars encode digits
  one_answer = refl

  -- a line that has not ended says nothing
  nothing_yet : told_so_far (asked_by root) false (codes "sync") ≡ []
  unfolding takes_pieces
  nothing_yet = refl

  nothing_before : told_so_far (asked_by root) false [] ≡ []
  unfolding takes_pieces
  nothing_before = refl

  told_yet : told_so_far (asked_by root) false sync ≡ done
  unfolding takes takes_pieces word_in word_alone is_utf8 chars encode digits
  told_yet = refl

  -- ---- Its output.

  whole : IsOfWhole (serving_by root unread at_its_end) (printed done 0)
  whole = record { input = sync; gave = record { taken = refl; counted = refl }; whole = refl; none_failed = refl; is = sym one_answer }

  not_of_a_part : (p : LiveOutput) → IsOfWhole (serving_by root unread (reader (codes "c") 4 false)) p → ⊥
  not_of_a_part p h = let e : codes "c" ≡ [] = h.whole in absurd (cc)

  not_behind_a_failed_read : (p : LiveOutput) → IsOfWhole (serving_by root unread (reader [] 5 true)) p → ⊥
  not_behind_a_failed_read p h = true≢false h.none_failed

  not_of_other_bytes : (p : LiveOutput) (h : IsOfWhole (serving_by root unread at_its_end) p) → length h.input ≡ 4 → ⊥
  not_of_other_bytes p h four = let e : 5 ≡ 0 + length h.input = h.gave.counted in omega (arith, e, four)

  input_is : (p : LiveOutput) (h : IsOfWhole (serving_by root unread at_its_end) p) → h.input ≡ sync
  input_is p h = sym (h.gave.taken ∙ append-nil h.input)

  not_with_another_status : IsOfWhole (serving_by root unread at_its_end) (printed done 1) → ⊥
  not_with_another_status h =
      let e : 1 ≡ 0 = ap (λ (p : LiveOutput). p.status) (h.is ∙ ap (live_output root) (input_is (printed done 1) h) ∙ one_answer) in
      omega (arith, e)

  not_with_another_text : IsOfWhole (serving_by root unread at_its_end) (printed [] 0) → ⊥
  not_with_another_text h =
      let e : [] ≡ done = ap (λ (p : LiveOutput). p.text) (h.is ∙ ap (live_output root) (input_is (printed [] 0) h) ∙ one_answer) in
      absurd (cc)

  -- what would say more of a longer input is no refusal
  not_refused : (p : LiveOutput) → IsOfRefused (serving_by root (reader [] 0 false) (reader [] 0 false)) p → ⊥
  unfolding takes_pieces takes_torn
  not_refused p h =
      let none : h.bytes ≡ [] = sym (h.gave.taken ∙ append-nil h.bytes) in
      let short : p ≡ live_output root [] = h.is [] ∙ ap (λ b. live_output root (b ++ [])) none in
      let long : p ≡ live_output root sync = h.is sync ∙ ap (λ b. live_output root (b ++ sync)) none in
      let e : [] ≡ done = ap (λ (q : LiveOutput). q.text) (sym short ∙ long ∙ one_answer) in
      absurd (cc)

  -- ---- What is told before another read.

  -- the line came by the last read, or by one before it
  by_one_read : IsToldAtOnce root sync []
  by_one_read = record { earlier = []; last = sync; are = refl; one_read = omega arith; before = ([], sym (ap (λ t. t ++ []) nothing_before)) }

  by_two_reads : IsToldAtOnce root sync done
  by_two_reads = record { earlier = sync; last = []; are = sym (append-nil sync); one_read = omega arith; before = ([], sym (append-nil _ ∙ told_yet)) }

  not_a_read_later : (bytes : List ℕ) (h : IsToldAtOnce root bytes []) → h.earlier ≡ sync → ⊥
  not_a_read_later bytes h e =
      let told : [] ≡ done ++ h.before.0 = h.before.1 ∙ ap (λ t. t ++ h.before.0) (ap (told_so_far (asked_by root) false) e ∙ told_yet) in
      absurd (cc)

  not_by_a_longer_read : (bytes told : List ℕ) (h : IsToldAtOnce root bytes told) → length h.last ≡ 65537 → ⊥
  not_by_a_longer_read bytes told h long = omega (arith, h.one_read, long)

  not_of_more_bytes : (told : List ℕ) (h : IsToldAtOnce root sync told) → h.earlier ≡ sync → h.last ≡ sync → ⊥
  not_of_more_bytes told h e l = let twice : sync ≡ sync ++ sync = h.are ∙ ap₂ (λ a b. a ++ b) e l in omega (arith, ap length twice)

  -- behind a failed read comes what was told, and that
  failed_read : IsOfFailedRead (serving_by root unread (reader [] 5 true)) (printed (done ++ (codes "fault 8" ++ line_feed ∷ [])) 1)
  failed_read = record { bytes = sync; gave = record { taken = refl; counted = refl }; failed = refl; why = inl refl; is = ap (λ t. printed (t ++ (codes "fault 8" ++ line_feed ∷ [])) 1) (sym told_yet) }

  not_where_none_failed : (p : LiveOutput) → IsOfFailedRead (serving_by root unread at_its_end) p → ⊥
  not_where_none_failed p h = true≢false (sym h.failed)

  -- no read fails of itself
  not_of_itself : (p : LiveOutput) → IsOfFailedRead (serving_by root unread (record (reader [] 5 true) { refused = false })) p → ⊥
  not_of_itself p h = by h.why
    where
      by : (false ≡ true) ⊎ ((false ≡ true) ⊎ (2 ^ 62 ≤ 5)) → ⊥
      by (inl e) = true≢false (sym e)
      by (inr (inl e)) = true≢false (sym e)
      by (inr (inr more)) = omega (arith, more)

  -- where memory is refused, some line is not taken
  nothing_told : IsOfNoMemory (serving_by root unread at_its_end) (printed (codes "fault 55" ++ line_feed ∷ []) 1)
  nothing_told = record {
    bytes = sync;
    gave = record { taken = refl; counted = refl };
    none_failed = refl;
    told = [];
    untaken = inr (inl (record {
      taken = [];
      left = sync;
      are = refl;
      some = λ e. absurd (cc);
      part = [];
      begins = sym (ap (λ t. t ++ []) nothing_before);
      cut = record { rest = done; is = told_yet ∙ sym (ap (λ t. (t ++ []) ++ done) nothing_before); short = λ e. refl };
    }));
    at_once = by_one_read;
    is = refl;
  }

  -- or no byte was read
  none_read : IsOfNoMemory (serving_by root unread unread) (printed (codes "fault 55" ++ line_feed ∷ []) 1)
  none_read = record {
    bytes = [];
    gave = record { taken = refl; counted = refl };
    none_failed = refl;
    told = [];
    untaken = inl (refl, refl);
    at_once = record { earlier = []; last = []; are = refl; one_read = omega arith; before = ([], sym (ap (λ t. t ++ []) nothing_before)) };
    is = refl;
  }

  -- a part of the only line says nothing
  part_says_nothing : (k : ℕ) → k < 5 → lines_say root (take k sync) ≡ []
  unfolding takes_pieces
  part_says_nothing zero few = refl
  part_says_nothing (suc zero) few = refl
  part_says_nothing (suc (suc zero)) few = refl
  part_says_nothing (suc (suc (suc zero))) few = refl
  part_says_nothing (suc (suc (suc (suc zero)))) few = refl
  part_says_nothing (suc (suc (suc (suc (suc k))))) few = absurd (omega (arith, few))

  none_torn : torn_of root sync ≡ []
  unfolding takes_pieces
  none_torn = refl

  -- where the only line was told whole, it goes on
  not_told_whole : IsOfNoMemory (serving_by root unread at_its_end) (printed (done ++ (codes "fault 55" ++ line_feed ∷ [])) 1) → ⊥
  not_told_whole h = by h.untaken
    where
      bytes : h.bytes ≡ sync
      bytes = sym (h.gave.taken ∙ append-nil h.bytes)

      told : h.told ≡ done
      told = append_cancel_right h.told done (codes "fault 55" ++ line_feed ∷ []) (ap (λ (p : LiveOutput). p.text) (sym h.is))

      by_line : LacksLine (lines_say root) h.bytes h.told → ⊥
      by_line l =
          let cut : sync ≡ l.taken ++ l.left = sym bytes ∙ l.are in
          let front : l.taken ≡ take (length l.taken) sync = sym (take-append_seam l.taken l.left) ∙ ap (take (length l.taken)) (sym cut) in
          let silent : lines_say root l.taken ≡ [] = ap (lines_say root) front ∙ part_says_nothing (length l.taken) (shorter l.taken l.left cut l.some) in
          let part : l.part ≡ done = sym (ap (λ t. t ++ l.part) silent) ∙ sym l.begins ∙ told in
          let text : done ≡ done ++ l.cut.rest = sym told_yet ∙ ap (lines_say root) (sym bytes) ∙ l.cut.is ∙ ap₂ (λ a b. (a ++ b) ++ l.cut.rest) silent part in
          let none : done ≡ [] = sym part ∙ l.cut.short (none_behind done l.cut.rest text) in
          absurd (cc)

      by_end : LacksEnd root h.bytes h.told → ⊥
      by_end l =
          let said : lines_say root h.bytes ≡ done = ap (lines_say root) bytes ∙ told_yet in
          let part : l.part ≡ [] = none_behind done l.part (sym told ∙ l.begins ∙ ap (λ t. t ++ l.part) said) in
          let text : done ≡ done ++ l.cut.rest =
          sym (ap (λ (p : LiveOutput). p.text) one_answer) ∙ ap (λ b. (live_output root b).text) (sym bytes) ∙ l.cut.is
          ∙ ap₂ (λ a b. (a ++ b) ++ l.cut.rest) said part ∙ ap (λ t. t ++ l.cut.rest) (append-nil done) in
          l.torn (none_behind done l.cut.rest text) (ap (torn_of root) bytes ∙ none_torn)

      by : IsUntaken (serving_by root unread at_its_end) h.bytes h.told → ⊥
      by (inl none) = let e : sync ≡ [] = sym bytes ∙ none.0 in absurd (cc)
      by (inr (inl line)) = by_line line
      by (inr (inr end)) = by_end end.1

  not_after_a_failed_read : (p : LiveOutput) → IsOfNoMemory (serving_by root unread (reader [] 5 true)) p → ⊥
  not_after_a_failed_read p h = true≢false h.none_failed

  -- of a last line that lacks its line feed not all was told, once the input has ended
  abbrev fault_1 : List ℕ
  fault_1 = codes "fault 1 line 1" ++ line_feed ∷ []

  torn_answer : live_output root (codes "sync") ≡ printed fault_1 0
  unfolding takes_pieces takes_torn word_in word_alone is_utf8 chars encode digits
  torn_answer = refl

  torn_behind : torn_of root (codes "sync") ≡ codes "sync"
  unfolding takes_pieces
  torn_behind = refl

  half_of_it : LacksEnd root (codes "sync") (codes "fault 1")
  half_of_it = record {
    part = codes "fault 1";
    begins = sym (ap (λ t. t ++ codes "fault 1") nothing_yet);
    cut = record {
      rest = codes " line 1" ++ line_feed ∷ [];
      is = ap (λ (p : LiveOutput). p.text) torn_answer ∙ sym (ap (λ t. (t ++ codes "fault 1") ++ (codes " line 1" ++ line_feed ∷ [])) nothing_yet);
      short = λ e. absurd (cc);
    };
    torn = λ e. absurd (cc);
  }

  not_all_of_it : LacksEnd root (codes "sync") fault_1 → ⊥
  not_all_of_it l =
      let part : l.part ≡ fault_1 = sym (ap (λ t. t ++ l.part) nothing_yet) ∙ sym l.begins in
      let text : fault_1 ≡ fault_1 ++ l.cut.rest =
      sym (ap (λ (p : LiveOutput). p.text) torn_answer) ∙ l.cut.is ∙ ap₂ (λ a b. (a ++ b) ++ l.cut.rest) nothing_yet part in
      let none : fault_1 ≡ [] = sym part ∙ l.cut.short (none_behind fault_1 l.cut.rest text) in
      absurd (cc)

  -- and not before
  not_before_its_end : IsUntaken (serving_by root unread (reader (line_feed ∷ []) 4 false)) (codes "sync") (codes "fault 1") → ⊥
  not_before_its_end (inl none) = let e : codes "sync" ≡ [] = none.0 in absurd (cc)
  not_before_its_end (inr (inl l)) =
      let text : [] ≡ codes "fault 1" ++ l.cut.rest = sym nothing_yet ∙ l.cut.is ∙ ap (λ t. t ++ l.cut.rest) (sym l.begins) in
      absurd (cc)
  not_before_its_end (inr (inr end)) = let e : line_feed ∷ [] ≡ [] = end.0 in absurd (cc)

  -- ---- What a writer has.

  abbrev unwritten : Writer
  unwritten = record { contents = Some []; taken = 0; failed = false }

  abbrev written : List ℕ → Bool → Writer
  written text failed = record { contents = Some text; taken = length text; failed = failed }

  wrote : WroteLive (serving_by root unread at_its_end) unwritten (written done false) 0
  wrote = record { output = printed done 0; right = inl whole; took = record { bytes = refl; counted = refl; unfailed = refl }; ends = refl }

  not_with_a_failed_write : (ended : ℕ) → WroteLive (serving_by root unread at_its_end) unwritten (written done true) ended → ⊥
  not_with_a_failed_write ended h = true≢false h.took.unfailed

  so_far : IsSoFar (serving_by root unread (reader [] 5 false)) done
  so_far = record { bytes = sync; gave = record { taken = refl; counted = refl }; is = sym told_yet }

  wrote_a_prefix : WroteLivePrefix (serving_by root unread at_its_end) unwritten (written (codes "done") true) (record { written = 4 })
  wrote_a_prefix = record {
    text = done;
    right = inr so_far;
    prefix = record {
      took = record { prefix = codes "done"; rest = codes " 1" ++ line_feed ∷ []; whole = refl; short = omega arith; bytes = refl; counted = refl; caused = refl };
      told = refl;
    };
  }

  not_told_of_another_count : WroteLivePrefix (serving_by root unread at_its_end) unwritten (written (codes "done") true) (record { written = 3 }) → ⊥
  not_told_of_another_count h = let e : 4 ≡ 0 + length h.prefix.took.prefix = h.prefix.took.counted in omega (arith, e, h.prefix.told)

-- a prefix of a text, and no prefix of it
prefix : IsPrefixOf (codes "do") (codes "done")
prefix = (codes "ne", refl)

no_prefix : IsPrefixOf (codes "x") (codes "done") → ⊥
no_prefix h = let e : 100 ≡ 120 = ap (λ t. get_or t 0 0) h.1 in omega (arith, e)
