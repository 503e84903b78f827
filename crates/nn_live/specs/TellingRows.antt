-- What a service tells, on small examples.
use Rattle.std.specs.Prelude.{◌≡◌, ℕ, ◌+◌, false, List, [], ◌∷◌, ◌++◌, flat_map, codes, decimal, refl}
use Rattle.std.specs.List.{All}
use Rattle.std.proofs.Common.{ap, append-nil, append_assoc, arith, get_or, inl, inr, length, length-append, sym, ◌∙◌}
use Rattle.std.proofs.Math.Seq.{get_or-append_seam}
use Rattle.std.proofs.lemmas.Bool.{eqb-true}
use Rattle.std.proofs.lemmas.Grind.{flat_map-append}
use Rattle.std.proofs.lemmas.List.Elements.{All-nil, All-cons, All-head, All-tail}
use Rattle.std.specs.Fmt.{digits}
use Rattle.std.specs.Str.{is_utf8, chars}
use Rattle.std.specs.Float.Numeral.{scan_numeral}
use lib.Utf8.{encode}
use Rattle.json.specs.Json.{value}
use Rattle.json.specs.Lex.{punctuate, lex}
use Rattle.json.specs.Text.{content}
use Rattle.json.specs.Word.{word, after_number}
use Rattle.serde_json.specs.Read.{number_of}
use Rattle.nn_bytes.specs.Lines.{line_feed}
use Rattle.nn_types.specs.declared.edit.Edit.{Edit}
use Rattle.nn_types.specs.declared.edit.Edit.TheVariants.{EndSegment, Mkdir, StartSegment}
use Rattle.nn_types.specs.declared.edit_fault.EditFault.TheVariants.{Missing}
use Rattle.nn_types.specs.declared.event.Cause.TheVariants.{Flush}
use Rattle.nn_types.specs.declared.event.Event.TheVariants.{Applied, Processed}
use Rattle.nn_types.specs.declared.profile.Profile.TheVariants.{Two}
use Rattle.nn_types.specs.declared.tx.Tx.{Tx}
use Rattle.nn_edits.specs.Reading.{edit_of_line, either_of_line, object_in, value_of, either_in, tx_in, op_in, op_of, txid_in, whole_in, number_in, path_in, profile_in, edit_in, block_in, items_in, blocks_in, report_in, dn_in, kind_in, kind_of}
use Rattle.nn_segment.specs.Fault.{number_of as number_of_segment}
use Rattle.nn_segment.specs.Lines.{reads_of}
use Rattle.nn_segment.specs.Name.{txids_of, segment_file_name, digits as name_digits}
use Rattle.nn_segment.specs.Reading.{read_segment, fault_of_segment}
use Rattle.nn_segment.specs.declared.fault.SegmentFault.TheVariants.{Gap}
use Rattle.nn_model.specs.History.{History}
use Rattle.nn_model.specs.Namespace.{root_alone}
use Rattle.nn_model.specs.WellFormed.{Includes}
use Rattle.nn_listing.specs.Tables.{datanodes}
use Rattle.nn_listing.specs.Trail.{event_line, history_text}
use Rattle.nn_shadow.specs.declared.fault.ApplyFault.TheVariants.{Refused}
use Rattle.nn_shadow.specs.Numbers.{number_of_apply}
use Rattle.nn_live.specs.Laws.{served}
use Rattle.nn_live.specs.Live.{ServiceState, new_service, takes, takes_all}
use Rattle.nn_live.specs.LiveRows.{lines, asks}
use Rattle.nn_live.specs.Serving.{fault_text}
use Rattle.nn_live.specs.TellingLaws.{EndsLine, IsFollowedOrTold, PutsIn, SaysWhyNot, Stretch, TellsMore}
use Rattle.nn_live.specs.Words.{word_alone, word_in}

-- ---- The history.

-- all that the standby did is told, whether it is written or not: a segment, and what was held when it was promoted
all_told : (served (asks false) root_alone 0 (
    codes "{\"op\":\"OP_START_LOG_SEGMENT\",\"txid\":1}"
    ∷ codes "{\"dn\":1,\"block\":1073741825,\"gen\":1001,\"len\":5,\"kind\":\"received\"}"
    ∷ codes "{\"op\":\"OP_END_LOG_SEGMENT\",\"txid\":2}"
    ∷ codes "promote 2" ∷ [])).told
    ≡ Applied 1 ∷ Applied 2 ∷ Processed 1 1 1073741825 Flush ∷ []
unfolding takes takes_all word_in word_alone read_segment fault_of_segment txids_of segment_file_name name_digits reads_of edit_of_line digits datanodes either_of_line either_in report_in dn_in kind_in kind_of object_in value_of tx_in op_in op_of txid_in whole_in number_in path_in profile_in edit_in blocks_in items_in block_in is_utf8 chars encode value punctuate lex content word after_number number_of scan_numeral
all_told = refl

abbrev one_applied : History
one_applied = Applied 1 ∷ []

abbrev behind_two : Stretch
behind_two = record { answers = lines (codes "done 2" ∷ []); events = Applied 1 ∷ Applied 2 ∷ [] }

abbrev behind_four : Stretch
behind_four = record { answers = lines (codes "done 4" ∷ []); events = [] }

abbrev IsWhole : Stretch → Type 0
IsWhole x = EndsLine x.answers

-- two events behind an answer, and none behind the next
put_in : PutsIn (Applied 1 ∷ Applied 2 ∷ []) (lines (codes "done 2" ∷ codes "done 4" ∷ [])) (lines (codes "done 2" ∷ codes "applied 1" ∷ codes "applied 2" ∷ codes "done 4" ∷ []))
unfolding digits
put_in = record {
  stretches = behind_two ∷ behind_four ∷ [];
  of_told = refl;
  of_answered = refl;
  of_written = refl;
  whole = All-cons IsWhole behind_two (behind_four ∷ []) (inr refl) (All-cons IsWhole behind_four [] (inr refl) (All-nil IsWhole));
}

nil_parts : (a b : List ℕ) → [] ≡ a ++ b → (a ≡ []) × (b ≡ [])
nil_parts [] b e = (refl, sym e)
nil_parts (x ∷ a) b e = absurd (cc)

no_events : (h k : History) → [] ≡ h ++ k → (h ≡ []) × (k ≡ [])
no_events [] k e = (refl, sym e)
no_events (x ∷ h) k e = absurd (cc)

abbrev answers_of : List Stretch → List ℕ
answers_of stretches = flat_map (λ (x : Stretch). x.answers) stretches

abbrev events_of : List Stretch → History
events_of stretches = flat_map (λ (x : Stretch). x.events) stretches

abbrev written_of : List Stretch → List ℕ
written_of stretches = flat_map (λ (x : Stretch). x.answers ++ history_text x.events) stretches

-- where nothing is answered, the events alone are written
alone : (stretches : List Stretch) → [] ≡ answers_of stretches → written_of stretches ≡ history_text (events_of stretches)
alone [] e = refl
alone (x ∷ stretches) e =
    let none = nil_parts x.answers (answers_of stretches) e in
    ap (λ a. a ++ history_text x.events ++ written_of stretches) none.0 ∙ ap (λ w. history_text x.events ++ w) (alone stretches (sym none.1))
    ∙ sym (flat_map-append event_line x.events (events_of stretches))

only_events : (told : History) (written : List ℕ) → PutsIn told [] written → written ≡ history_text told
only_events told written p = p.of_written ∙ alone p.stretches p.of_answered ∙ ap history_text (sym p.of_told)

not_left_out : PutsIn one_applied [] [] → ⊥
not_left_out p = let e : 0 ≡ 97 = ap (λ t. get_or t 0 0) (only_events one_applied [] p) in omega (arith, e)

not_made_up : PutsIn [] [] (event_line (Applied 1)) → ⊥
not_made_up p = let e : 97 ≡ 0 = ap (λ t. get_or t 0 0) (only_events [] (event_line (Applied 1)) p) in omega (arith, e)

not_in_another_order : PutsIn (Applied 1 ∷ Applied 2 ∷ []) [] (history_text (Applied 2 ∷ Applied 1 ∷ [])) → ⊥
unfolding digits
not_in_another_order p =
    let e : 50 ≡ 49 = ap (λ t. get_or t 8 0) (only_events (Applied 1 ∷ Applied 2 ∷ []) (history_text (Applied 2 ∷ Applied 1 ∷ [])) p) in omega (arith, e)

-- where nothing is done, the answers alone are written
quiet : (stretches : List Stretch) → [] ≡ events_of stretches → written_of stretches ≡ answers_of stretches
quiet [] e = refl
quiet (x ∷ stretches) e =
    let none = no_events x.events (events_of stretches) e in
    ap (λ h. x.answers ++ history_text h ++ written_of stretches) none.0 ∙ ap (λ a. a ++ written_of stretches) (append-nil x.answers)
    ∙ ap (λ w. x.answers ++ w) (quiet stretches (sym none.1))

only_answers : (answered written : List ℕ) → PutsIn [] answered written → written ≡ answered
only_answers answered written p = p.of_written ∙ quiet p.stretches p.of_told ∙ sym p.of_answered

no_answer_lost : PutsIn [] (codes "done 1" ++ line_feed ∷ []) [] → ⊥
no_answer_lost p = let e : 0 ≡ 100 = ap (λ t. get_or t 0 0) (only_answers (codes "done 1" ++ line_feed ∷ []) [] p) in omega (arith, e)

-- so much is told of a line into which an event was put
abbrev Left : History → List ℕ → List ℕ → Type 0
Left told answered written = (one_applied ≡ told) × (codes "xy" ++ line_feed ∷ [] ≡ answered) × (codes "x" ++ event_line (Applied 1) ++ codes "y" ++ line_feed ∷ [] ≡ written)

-- an event is not put into a line
not_inside_a_line : PutsIn one_applied (codes "xy" ++ line_feed ∷ []) (codes "x" ++ event_line (Applied 1) ++ codes "y" ++ line_feed ∷ []) → ⊥
not_inside_a_line p = none p.stretches (p.of_told, p.of_answered, p.of_written) p.whole
  where
    byte : (k : ℕ) (a b : List ℕ) → a ≡ b → get_or a k 0 ≡ get_or b k 0
    byte k a b e = ap (λ t. get_or t k 0) e

    none : (stretches : List Stretch) → Left (events_of stretches) (answers_of stretches) (written_of stretches) → All IsWhole stretches → ⊥
    none [] left whole = let e : 120 ≡ 0 = byte 0 _ _ left.1 in omega (arith, e)
    none (x ∷ stretches) left whole = first x.answers x.events (λ later. none stretches later (All-tail IsWhole x stretches whole)) left (All-head IsWhole x stretches whole)
      where
        first : (answers : List ℕ) (events : History) → (Left (events_of stretches) (answers_of stretches) (written_of stretches) → ⊥)
            → Left (events ++ events_of stretches) (answers ++ answers_of stretches) (answers ++ history_text events ++ written_of stretches) → EndsLine answers → ⊥
        first [] [] later left ends = later left
        first [] (Applied txid ∷ events) later left ends = let e : 120 ≡ 97 = byte 0 _ _ left.2 in omega (arith, e)
        first [] (Processed dn number block cause ∷ events) later left ends = let e : 120 ≡ 112 = byte 0 _ _ left.2 in omega (arith, e)
        first (a ∷ []) events later left (inl e) = absurd (cc)
        first (a ∷ []) events later left (inr fed) = let e : 120 ≡ a = byte 0 _ _ left.1 in omega (arith, e, eqb-true a 10 fed)
        first (a ∷ b ∷ []) events later left (inl e) = absurd (cc)
        first (a ∷ b ∷ []) events later left (inr fed) = let e : 121 ≡ b = byte 1 _ _ left.1 in omega (arith, e, eqb-true b 10 fed)
        first (a ∷ b ∷ c ∷ answers) events later left ends =
            let e : 121 ≡ b = byte 1 _ _ left.1 in
            let f : 97 ≡ b = byte 1 _ _ left.2 in
            omega (arith, e, f)

-- what is told changes nothing else
not_another_service : (s : ServiceState) → TellsMore s (record s { lines = s.lines + 1 }) → ⊥
not_another_service s t = let e : s.lines + 1 ≡ s.lines = ap (λ (x : ServiceState). x.lines) t.same in omega (arith, e)

-- ---- Segments.

abbrev at_txid : ℕ → Edit → Tx
at_txid txid edit = record { txid = txid; edit = edit }

-- a start mark, and edits behind it
abbrev started : ℕ → List Tx → List Tx
started txid txs = at_txid txid (StartSegment Two) ∷ txs

abbrev two : List Tx
two = started 1 (at_txid 2 EndSegment ∷ [])

abbrev fresh : ServiceState
fresh = new_service root_alone 0

abbrev writes : ℕ → ℕ → List (List ℕ) → ServiceState
writes last segments texts = record fresh { standby = record fresh.standby { last = last }; segments = segments; written = lines texts }

followed : IsFollowedOrTold two fresh (writes 2 1 [])
followed = inl (omega arith)

no_segment : IsFollowedOrTold two fresh (writes 0 1 (codes "fault 14 segment 1" ∷ []))
unfolding digits
no_segment = inr ([], lines (codes "fault 14 segment 1" ∷ []), inl (Gap 2, refl), refl)

behind_a_gap : IsFollowedOrTold (started 4 (at_txid 5 EndSegment ∷ [])) fresh (writes 2 7 (codes "fault 57 txid 3 segment 7" ∷ []))
unfolding digits
behind_a_gap = inr ([], lines (codes "fault 57 txid 3 segment 7" ∷ []), inr (inl (omega arith, refl)), refl)

-- what was applied before it is written, too
one_refused : IsFollowedOrTold (started 1 (at_txid 2 (Mkdir (codes "a" ∷ codes "b" ∷ [])) ∷ at_txid 3 EndSegment ∷ [])) fresh (writes 1 1 (codes "applied 1" ∷ codes "fault 22 txid 2" ∷ []))
unfolding digits
one_refused =
    inr (lines (codes "applied 1" ∷ []), lines (codes "fault 22 txid 2" ∷ []), inr (inr (at_txid 2 (Mkdir (codes "a" ∷ codes "b" ∷ [])), Refused Missing, inr (inl refl), refl)), refl)

-- no reason is an empty text
some_reason : (txs : List Tx) (s : ServiceState) (why : List ℕ) → SaysWhyNot txs s why → get_or why 0 0 ≡ 102
some_reason txs s why (inl x) = ap (λ t. get_or t 0 0) x.1
some_reason txs s why (inr (inl x)) = ap (λ t. get_or t 0 0) x.1
some_reason txs s why (inr (inr x)) = ap (λ t. get_or t 0 0) x.3

not_in_silence : IsFollowedOrTold two fresh fresh → ⊥
not_in_silence (inl last) = omega (arith, last)
not_in_silence (inr x) =
    let none = nil_parts x.0 x.1 x.3 in
    let e : 0 ≡ 102 = ap (λ t. get_or t 0 0) (sym none.1) ∙ some_reason two fresh x.1 x.2 in
    omega (arith, e)

-- the last digit, before the line feed, is that of the segment, or of one of its transactions
last_digit : (front : List ℕ) (digit other : ℕ) → codes "fault 14 segment " ++ digit ∷ line_feed ∷ [] ≡ front ++ other ∷ line_feed ∷ [] → other ≡ digit
last_digit front digit other e =
    let size : length front ≡ 17 = omega (arith, ap length e, length-append front (other ∷ line_feed ∷ [])) in
    sym (get_or-append_seam front other (line_feed ∷ []) 0) ∙ ap (λ t. get_or t (length front) 0) (sym e) ∙ ap (λ k. get_or (codes "fault 14 segment " ++ digit ∷ line_feed ∷ []) k 0) size

-- the fault of another segment is no reason
not_of_another_segment : IsFollowedOrTold two fresh (writes 0 1 (codes "fault 14 segment 7" ∷ [])) → ⊥
unfolding digits
not_of_another_segment (inl last) = omega (arith, last)
not_of_another_segment (inr x) = by x.0 x.1 x.2 x.3
  where
    t : ServiceState
    t = writes 0 1 (codes "fault 14 segment 7" ∷ [])

    ends : (before why front : List ℕ) (digit : ℕ) → why ≡ front ++ digit ∷ line_feed ∷ [] → t.written ≡ before ++ why → digit ≡ 55
    ends before why front digit is written = last_digit (before ++ front) 55 digit (written ∙ ap (λ w. before ++ w) is ∙ sym (append_assoc before front (digit ∷ line_feed ∷ [])))

    no_other : (number : ℕ) (place : List ℕ) (n digit : ℕ) (before why : List ℕ) → decimal n ≡ digit ∷ [] → why ≡ fault_text number place n → t.written ≡ before ++ why → digit ≡ 55
    no_other number place n digit before why spelled is written =
        let front = decimal number ++ place in
        let shape = ap (λ d. codes "fault " ++ (front ++ d ++ line_feed ∷ [])) spelled ∙ ap (λ w. codes "fault " ++ w) (append_assoc front (digit ∷ []) (line_feed ∷ [])) in
        ends before why (codes "fault " ++ front) digit (is ∙ shape) written

    by : (before why : List ℕ) → SaysWhyNot two t why → t.written ≡ before ++ why → ⊥
    by before why (inl x) written = omega (arith, no_other (number_of_segment x.0) (codes " segment ") 1 49 before why refl x.1 written)
    by before why (inr (inl x)) written = omega (arith, x.0)
    by before why (inr (inr x)) written = of_either x.2
      where
        of_either : Includes two x.0 → ⊥
        of_either (inl e) = omega (arith, no_other (number_of_apply x.1) (codes " txid ") x.0.txid 49 before why (ap (λ (tx : Tx). decimal tx.txid) (sym e)) x.3 written)
        of_either (inr (inl e)) = omega (arith, no_other (number_of_apply x.1) (codes " txid ") x.0.txid 50 before why (ap (λ (tx : Tx). decimal tx.txid) (sym e)) x.3 written)
        of_either (inr (inr e)) = absurd e
