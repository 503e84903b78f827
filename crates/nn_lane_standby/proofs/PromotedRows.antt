-- A standby that is promoted wherever it stood before.
use Rattle.std.specs.Prelude.{◌≡◌, ℕ, zero, suc, ◌+◌, [], ◌∷◌, ◌++◌, length, refl}
use Rattle.std.proofs.Common.{arith, sym, ap, ◌∙◌, subst}
use Rattle.std.proofs.lemmas.List.{append-nil, append_assoc}
use Rattle.nn_types.specs.declared.profile.Profile.TheVariants.{One}
use Rattle.nn_types.specs.declared.edit.Edit.TheVariants.{StartSegment, EndSegment}
use Rattle.nn_model.specs.Log.{counted}
use Rattle.nn_model.specs.Items.{items}
use Rattle.nn_model.specs.Lanes.{followed_by}
use Rattle.nn_model.specs.Namespace.{root_alone}
use Rattle.nn_model.specs.Picture.{ShowsPicture}
use Rattle.nn_model.specs.Stands.{StandbyState, Stands, tables_of}
use Rattle.nn_model.specs.MessageRows.{tx}
use Rattle.nn_model.specs.MessageRowsLater.{unnamed_log, unnamed_report}
use Rattle.nn_lane.specs.Ends.{LaneId}
use Rattle.nn_segment.specs.Source.{given, end}
use Rattle.nn_segment.specs.LogEnd.{end_of_log, end_of_txs}
use Rattle.nn_segment.proofs.Asks.{one_given}
use Rattle.nn_segment.proofs.Walks.{behind_the_rest}
use Rattle.nn_shadow.specs.Calls.{applied_to, received, flushed, with_past}
use Rattle.nn_shadow.proofs.Taken.{applies_after, receives_after, flushes_after}
use Rattle.nn_model.specs.History.{IsBeforeFlush}
use Rattle.nn_model.specs.Lawful.{IsWhole}
use Rattle.nn_shadow.specs.Contents.{standby_of}
use Rattle.nn_shadow.specs.Laws.{StandsBy}
use Rattle.nn_shadow.proofs.Standings.{receives, applies, flushes, flushes_whole, flush_shows_picture}
use Rattle.nn_lane_standby.specs.Tailing.{Carries, standby_with_past, lanes_of}
use Rattle.nn_lane_standby.specs.Promotion.{Promoted, IsPromoted}
use Rattle.nn_lane_standby.specs.Shadows.{IsFlushed}
use Rattle.nn_lane_standby.specs.PromotedRows.{not_the_first, new_shadow, new, new_is_fresh, marks, held_shadow, closed, is_read, promoted_shadow, promoted, is_flushed}
use Rattle.nn_lane_standby.proofs.Carried.{carries_answer, end_adds_none}
use Rattle.nn_lane_standby.proofs.Finished.{promotes}

-- ---- One that read its log to the end and closed its lane is promoted once its source gives End.

flush : IsFlushed held_shadow promoted_shadow
flush = let here = is_flushed ∙ ap flushed (sym is_read) in record {
  standby = here;
  phase = refl;
  settings = record { datanodes = refl; min = refl; permille = refl };
  stands = λ past start base txs lanes s. let x = with_past past (standby_of held_shadow) in (
    subst (Stands start base txs lanes) (flushes_after past (standby_of held_shadow) ∙ ap (with_past past) (sym here)) (flushes start base txs lanes x s),
    subst (λ z. IsWhole start txs (items lanes) z.history) (flushes_after past (standby_of held_shadow) ∙ ap (with_past past) (sym here)) (flushes_whole start base txs lanes x s),
    subst (λ z. ShowsPicture root_alone (items lanes) (tables_of z)) (flushes_after past (standby_of held_shadow) ∙ ap (with_past past) (sym here)) (flush_shows_picture start base txs lanes x s),
  );
}

promoted_at_its_end : (l : LaneId) → IsPromoted (closed l) (end ∷ []) (promoted l)
promoted_at_its_end l past start base before h =
    (promotes (closed l) promoted_shadow refl refl flush past start base (before ++ end ∷ []) (carries_answer (closed l) end (refl, refl, refl) end_adds_none past start base before h) refl (before, refl) (refl, refl, refl, tt)).0

-- ---- One that was new was given the segment before, and its lane the message.

sent_more : (l : LaneId) (dn : ℕ) → followed_by (lanes_of (new l)) unnamed_report dn ≡ lanes_of (closed l) dn
sent_more l zero = refl
sent_more l (suc zero) = refl
sent_more l (suc (suc k)) = rw (not_the_first k) refl

goes_on : (l : LaneId) → Carries (new l) (given marks ∷ []) (closed l)
unfolding end_of_log end_of_txs
goes_on l past start base before h =
    let first = tx 1 (StartSegment One) in let own_x = standby_of new_shadow in let x = with_past past own_x in let came = received x unnamed_report in let none = lanes_of (new l) in let more = followed_by none unnamed_report in
    let one = h.txs ++ first ∷ [] in
    let s : StandsBy start base (one ++ tx 2 EndSegment ∷ []) more (applied_to (applied_to came first) (tx 2 EndSegment)) =
    applies start base one more (applied_to came first) (tx 2 EndSegment)
    (applies start base h.txs more came first (receives start base h.txs none x unnamed_report (record { stands = h.shadow; before_flush = h.before_flush refl }) refl) refl refl) refl refl in
    let own_same : standby_of held_shadow ≡ applied_to (applied_to (received own_x unnamed_report) first) (tx 2 EndSegment) =
    is_read ∙ ap (λ z. applied_to (applied_to (received z unnamed_report) first) (tx 2 EndSegment)) (sym new_is_fresh) in
    let same : with_past past (standby_of held_shadow) ≡ applied_to (applied_to came first) (tx 2 EndSegment) =
    ap (with_past past) own_same
    ∙ sym (ap (λ z. applied_to (applied_to z first) (tx 2 EndSegment)) (receives_after past own_x unnamed_report)
    ∙ ap (λ z. applied_to z (tx 2 EndSegment)) (applies_after past (received own_x unnamed_report) first)
    ∙ applies_after past (applied_to (received own_x unnamed_report) first) (tx 2 EndSegment)) in
    let own : more ≡ lanes_of (closed l) = λ i dn. sent_more l dn i in
    let both : one ++ tx 2 EndSegment ∷ [] ≡ h.txs ++ unnamed_log = append_assoc h.txs (first ∷ []) (tx 2 EndSegment ∷ []) in
    let at_0 : base + length h.txs + 0 ≡ 0 = omega (arith, h.shadow.last) in record {
      txs = h.txs ++ unnamed_log;
      shadow = subst (λ txs. Stands start base txs (lanes_of (closed l)) (with_past past (standby_of held_shadow))) both
          (subst (λ ls. Stands start base (one ++ tx 2 EndSegment ∷ []) ls (with_past past (standby_of held_shadow))) own (subst (Stands start base (one ++ tx 2 EndSegment ∷ []) more) (sym same) s.stands));
      before_flush = λ _. subst (λ (z : StandbyState). IsBeforeFlush z.history) (sym same) s.before_flush;
      log = behind_the_rest base before h.txs [] marks h.log ∙ ap (λ n. h.txs ++ counted n unnamed_log) at_0 ∙ sym (append-nil (h.txs ++ unnamed_log));
      goes_on = λ _ later. ap (end_of_log base start) (one_given before marks later) ∙ h.goes_on refl (marks ∷ later);
      stops = λ s e. absurd (cc);
      ended = λ e. absurd (cc);
    }

pub promoted_from_new : (l : LaneId) → IsPromoted (new l) (given marks ∷ end ∷ []) (promoted l)
promoted_from_new l past start base before h =
    subst (λ answers. Promoted start base answers (standby_with_past past (promoted l))) (append_assoc before (given marks ∷ []) (end ∷ [])) (promoted_at_its_end l past start base (before ++ given marks ∷ []) (goes_on l past start base before h))
