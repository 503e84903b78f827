-- Histories that are not lawful, each by one clause, and histories that are not whole.
use Rattle.std.specs.Prelude.{◌≡◌, ℕ, Bool, true, false, [], ◌∷◌, ◌++◌, map, take, Some, None, refl}
use Rattle.std.specs.List.{list_any}
use Rattle.std.proofs.Common.{sym, inl, inr, ap, ◌∙◌, rules}
use Rattle.std.proofs.lemmas.Bool.{both_ways, or_left, or_right}
use Rattle.nn_types.specs.declared.report.Message.{Message}
use Rattle.nn_types.specs.declared.report.Kind.TheVariants.{Received}
use Rattle.nn_types.specs.declared.event.Event.{Event}
use Rattle.nn_types.specs.declared.event.Event.TheVariants.{Applied, Processed}
use Rattle.nn_types.specs.declared.event.Cause.{Cause}
use Rattle.nn_types.specs.declared.event.Cause.TheVariants.{Due, Flush}
use Rattle.nn_model.specs.Namespace.{root_alone}
use Rattle.nn_model.specs.WellFormed.{Includes}
use Rattle.nn_model.specs.Log.{namespace_after}
use Rattle.nn_model.specs.Lanes.{Lanes, message_of, no_messages}
use Rattle.nn_model.specs.Held.{is_held, IsFree}
use Rattle.nn_model.specs.History.{History, is_flush, processed}
use Rattle.nn_model.specs.Lawful.{NamesItem, IsLawful, IsWhole, IsLooselyLawful}
use Rattle.nn_model.specs.Replay.{replay}
use Rattle.nn_model.specs.MessageRows.{b, c, message, received, two_lanes, of_sent, early_log, early_end, early_report, early_lanes, future_report, other_report, future_lanes, future_history}

-- ---- Words for the examples.

-- an event that is in a history passes where it passes by itself
has_any : (p : Event → Bool) (events : History) (e : Event) → p e ≡ true → Includes events e → list_any p events ≡ true
has_any p [] e holds here = absurd here
has_any p (x ∷ events) e holds (inl same) = or_left _ _ (ap p same ∙ holds)
has_any p (x ∷ events) e holds (inr here) = or_right _ _ (has_any p events e holds here)

abbrev is_due_event : Event → Bool
is_due_event (Applied txid) = false
is_due_event (Processed dn number block Due) = true
is_due_event (Processed dn number block Flush) = false

-- the message that an event names is the one with its DataNode, number and block
named : (lanes : Lanes) (before : History) (dn number block : ℕ) (cause : Cause) → NamesItem lanes before (Processed dn number block cause) →
    (m : Message) × (message_of lanes dn number block ≡ Some m)
named lanes before dn number block cause names =
    (names.0, (λ i. message_of lanes (sym names.2 i) (sym names.3 i) (sym names.4 i)) ∙ names.1)

-- the log's transactions, one by one
abbrev first_five : History
first_five = Applied 1 ∷ Applied 2 ∷ Applied 3 ∷ Applied 4 ∷ Applied 5 ∷ []

abbrev last_two : History
last_two = Applied 6 ∷ Applied 7 ∷ []

-- ---- The transactions have to be applied in order, each once.

one_is_missing : IsLawful root_alone early_log no_messages (first_five ++ Applied 6 ∷ []) → ⊥
one_is_missing lawful = let e = lawful.applied_in_order in absurd (cc)

one_comes_twice : IsLawful root_alone early_log no_messages (first_five ++ last_two ++ Applied 7 ∷ []) → ⊥
one_comes_twice lawful = let e = lawful.applied_in_order in absurd (cc)

two_are_swapped : IsLawful root_alone early_log no_messages (first_five ++ Applied 7 ∷ Applied 6 ∷ []) → ⊥
two_are_swapped lawful = let e = lawful.applied_in_order in absurd (cc)

-- ---- Only messages that were sent may be processed.

never_sent : IsLawful root_alone early_log no_messages (first_five ++ Processed 1 1 b Due ∷ last_two) → ⊥
never_sent lawful = let m = named no_messages first_five 1 1 b Due lawful.sent.1.1.1.1.1.0 in let e : None ≡ Some m.0 = m.1 in absurd (cc)

sent_by_another : IsLawful root_alone early_log early_lanes (first_five ++ Processed 1 1 b Due ∷ Processed 2 1 b Due ∷ last_two) → ⊥
sent_by_another lawful =
    let m = named early_lanes (first_five ++ Processed 1 1 b Due ∷ []) 2 1 b Due lawful.sent.1.1.1.1.1.1.0 in let e : None ≡ Some m.0 = m.1 in absurd (cc)

sent_with_another_number : IsLawful root_alone early_log early_lanes (first_five ++ Processed 1 1 b Due ∷ Processed 1 2 b Due ∷ last_two) → ⊥
sent_with_another_number lawful =
    let m = named early_lanes (first_five ++ Processed 1 1 b Due ∷ []) 1 2 b Due lawful.sent.1.1.1.1.1.1.0 in let e : None ≡ Some m.0 = m.1 in absurd (cc)

sent_about_another_block : IsLawful root_alone early_log early_lanes (first_five ++ Processed 1 1 b Due ∷ Processed 1 1 c Due ∷ last_two) → ⊥
sent_about_another_block lawful =
    let m = named early_lanes (first_five ++ Processed 1 1 b Due ∷ []) 1 1 c Due lawful.sent.1.1.1.1.1.1.0 in let e : None ≡ Some m.0 = m.1 in absurd (cc)

-- ---- Of one DataNode about one block each is processed once, in sending order.

abbrev second_report : Message
second_report = message 1 2 Received b 1001 6

abbrev both_reports : Lanes
both_reports = two_lanes (early_report ∷ second_report ∷ []) []

processed_twice : IsLawful root_alone early_log early_lanes (first_five ++ Processed 1 1 b Due ∷ Processed 1 1 b Due ∷ last_two) → ⊥
processed_twice lawful = both_ways _ lawful.in_sending_order.1.1.1.1.1.1.0 refl

processed_out_of_order : IsLawful root_alone early_log both_reports (first_five ++ Processed 1 2 b Due ∷ Processed 1 1 b Due ∷ last_two) → ⊥
processed_out_of_order lawful = both_ways _ lawful.in_sending_order.1.1.1.1.1.1.0 refl

-- two DataNodes are free of one another
abbrev reports_of_two : Lanes
reports_of_two = two_lanes (early_report ∷ second_report ∷ []) (other_report ∷ [])

abbrev mixed_history : History
mixed_history = first_five ++ Processed 1 1 b Due ∷ Applied 6 ∷ Processed 1 2 b Due ∷ Processed 2 1 b Due ∷ Applied 7 ∷ []

two_datanodes_mix : IsLawful root_alone early_log reports_of_two mixed_history
two_datanodes_mix = record {
  applied_in_order = refl;
  sent = (
    tt,
    (
      tt,
      (
        tt,
        (
          tt,
          (
            tt,
            (
              (early_report, refl, refl, refl, refl),
              (
                tt,
                ((second_report, refl, refl, refl, refl), ((other_report, refl, refl, refl, refl), (tt, tt))),
              ),
            ),
          ),
        ),
      ),
    ),
  );
  in_sending_order = search rules;
  waited = search rules;
  flush_last = search rules;
  flush_held = search rules;
  none_forgotten = of_sent (λ m. IsFree (namespace_after root_alone early_log) reports_of_two m → Includes mixed_history (processed Due m))
      (early_report ∷ second_report ∷ []) (other_report ∷ []) ((λ free. search rules), ((λ free. search rules), tt)) ((λ free. search rules), tt);
}

-- ---- A message waits until the log names its block, and for an earlier one that waits.

processed_too_early : IsLawful root_alone early_log early_lanes (take 4 first_five ++ Processed 1 1 b Due ∷ Applied 5 ∷ last_two) → ⊥
processed_too_early lawful = both_ways _ lawful.waited.1.1.1.1.0 refl

-- The first message waits for a generation stamp that never comes, and the second, which is due by itself, is processed all the same.
-- Both are held in the end, so that no other clause asks for an event of either; but the first can't be flushed in order any more.
abbrev overtaking_lanes : Lanes
overtaking_lanes = two_lanes (future_report ∷ second_report ∷ []) []

abbrev overtaking_history : History
overtaking_history = first_five ++ Processed 1 2 b Due ∷ last_two

one_overtakes : IsLawful root_alone early_log overtaking_lanes overtaking_history → ⊥
one_overtakes lawful = both_ways _ lawful.waited.1.1.1.1.1.0 refl

-- the looser reading lets it pass, and the tables show a replica though all messages are held
one_overtakes_loosely : IsLooselyLawful root_alone early_log overtaking_lanes overtaking_history
one_overtakes_loosely = record {
  applied_in_order = refl;
  sent = (tt, (tt, (tt, (tt, (tt, ((second_report, refl, refl, refl, refl), (tt, (tt, tt))))))));
  in_sending_order = search rules;
  waited = search rules;
  flush_last = search rules;
  flush_held = search rules;
  none_forgotten = of_sent (λ m. IsFree (namespace_after root_alone early_log) overtaking_lanes m → Includes overtaking_history (processed Due m))
      (future_report ∷ second_report ∷ []) [] ((λ free. absurd (both_ways _ free refl)), ((λ free. absurd (both_ways _ free refl)), tt)) tt;
}

one_overtakes_tables : (map (is_held early_end (overtaking_lanes 1)) (overtaking_lanes 1) ≡ true ∷ true ∷ [])
    × ((replay root_alone early_log overtaking_lanes overtaking_history).replica 1 b ≡ Some (received 1001 6))
one_overtakes_tables = (refl, refl)

loosely_too_early : IsLooselyLawful root_alone early_log early_lanes (take 4 first_five ++ Processed 1 1 b Due ∷ Applied 5 ∷ last_two) → ⊥
loosely_too_early lawful = both_ways _ refl lawful.waited.1.1.1.1.0

-- ---- The flush comes last, and takes what is held.

flushed_before_an_edit : IsLawful root_alone early_log (two_lanes (future_report ∷ []) [])
    (first_five ++ Applied 6 ∷ Processed 1 1 b Flush ∷ Applied 7 ∷ []) → ⊥
flushed_before_an_edit lawful = both_ways _ lawful.flush_last.1.1.1.1.1.1.1.0 refl

flushed_before_a_due_one : IsLawful root_alone early_log (two_lanes (future_report ∷ []) (other_report ∷ []))
    (first_five ++ last_two ++ Processed 1 1 b Flush ∷ Processed 2 1 b Due ∷ []) → ⊥
flushed_before_a_due_one lawful = both_ways _ lawful.flush_last.1.1.1.1.1.1.1.1.0 refl

flushed_though_free : IsLawful root_alone early_log early_lanes (first_five ++ last_two ++ Processed 1 1 b Flush ∷ []) → ⊥
flushed_though_free lawful = both_ways _ refl lawful.flush_held.1.1.1.1.1.1.1.0

-- ---- What is free is processed, and in a whole history what is held is flushed.

one_is_forgotten : IsLawful root_alone early_log early_lanes (first_five ++ last_two) → ⊥
one_is_forgotten lawful =
    both_ways _ refl (has_any is_due_event (first_five ++ last_two) (processed Due early_report) refl (lawful.none_forgotten early_report refl refl))

-- flushing a free message does not count
one_is_flushed_instead : Includes (first_five ++ last_two ++ Processed 1 1 b Flush ∷ []) (processed Due early_report) → ⊥
one_is_flushed_instead here = both_ways _ refl (has_any is_due_event (first_five ++ last_two ++ Processed 1 1 b Flush ∷ [])
    (processed Due early_report) refl here)

none_is_flushed : IsWhole root_alone early_log future_lanes (take 8 future_history) → ⊥
none_is_flushed whole = both_ways _ refl (has_any is_flush (take 8 future_history) (processed Flush future_report) refl (whole future_report refl refl))
