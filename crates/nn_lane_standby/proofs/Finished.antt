-- The final flush.
use Rattle.std.proofs.Common.{◌≡◌, ℕ, true, false, List, [], ◌++◌, map, None, refl, sym, ap, ◌∙◌, subst}
use Rattle.std.proofs.lemmas.List.{append-nil}
use Rattle.nn_types.specs.declared.tx.Tx.{Tx}
use Rattle.nn_model.specs.Namespace.{Namespace}
use Rattle.nn_model.specs.Items.{items}
use Rattle.nn_model.specs.Lanes.{Lanes}
use Rattle.nn_model.specs.Lawful.{IsWhole}
use Rattle.nn_model.specs.Picture.{ShowsPicture}
use Rattle.nn_model.specs.Stands.{StandbyState, Stands, tables_of}
use Rattle.nn_lane.specs.Ends.{got_of}
use Rattle.nn_shadow.specs.Contents.{Shadow, standby_of}
use Rattle.nn_segment.specs.Segment.{Segment}
use Rattle.nn_segment.specs.Source.{Answer}
use Rattle.nn_segment.specs.Walk.{log_in}
use Rattle.nn_model.specs.History.{History}
use Rattle.nn_lane_standby.specs.Shadows.{ShowsSame, IsFlushed, shadow_with_past}
use Rattle.nn_lane_standby.specs.Tailing.{Standby, standby_with_past, way_on, StandsAt, EndsInEnd, AllTaken, lanes_of, by_node}
use Rattle.nn_lane_standby.specs.Promotion.{Promoted}
use Rattle.nn_lane_standby.proofs.Carried.{still_stands, still_before}
use Rattle.nn_segment.specs.LogEnd.{end_of_log, end_behind, given_in}
use Rattle.nn_lane_standby.proofs.LogEnds.{no_more, behind_none, same_way}
use Rattle.nn_lane_standby.proofs.Shadowing.{same_last, same_namespace}
use Rattle.nn_lane_standby.proofs.Drained.{handed_got}

-- the same standby with its flush begun
abbrev pub flushing : Standby → Shadow → Standby
flushing x s = record { shadow = s; ends = x.ends; undelivered = x.undelivered; rest = x.rest; stop = x.stop; active = x.active }

abbrev pub activated : Standby → Shadow → Standby
activated x s = record { shadow = s; ends = x.ends; undelivered = x.undelivered; rest = x.rest; stop = x.stop; active = true }

pub stands_flushing : (x : Standby) (s : Shadow) → ShowsSame x.shadow s → (past : History) (start : Namespace) (base : ℕ) (given : List Answer) → StandsAt start base given (standby_with_past past x) → x.rest ≡ [] → EndsInEnd given → AllTaken x.ends x.undelivered → StandsAt start base given (standby_with_past past (flushing x s))
stands_flushing x s f past start base given h r e t = record {
  txs = h.txs;
  shadow = still_stands past start base h.txs (lanes_of x) x.shadow s f h.shadow;
  before_flush = λ a. still_before past x.shadow s f (h.before_flush a);
  log = h.log;
  goes_on = (λ q later. h.goes_on q later ∙ same_way x (flushing x s) later (same_last x.shadow s f) (same_namespace x.shadow s f) refl);
  stops = h.stops;
  ended = λ _. (r, e, t);
}

pub promotes : (x : Standby) (s : Shadow) → x.active ≡ false → x.stop ≡ None → IsFlushed x.shadow s → (past : History) (start : Namespace) (base : ℕ) (given : List Answer) → StandsAt start base given (standby_with_past past x) → x.rest ≡ [] → EndsInEnd given → AllTaken x.ends x.undelivered → Promoted start base given (standby_with_past past (activated x s)) × StandsAt start base given (standby_with_past past (activated x s))
promotes x s a n f past start base given h r e t =
    let log : h.txs ≡ log_in base given = sym (h.log ∙ ap (λ z. h.txs ++ z) r ∙ append-nil h.txs) in
    let lanes : lanes_of x ≡ by_node (map got_of x.ends) = ap by_node (handed_got x.ends x.undelivered t) in
    let by = f.stands past start base h.txs (lanes_of x) (record { stands = h.shadow; before_flush = h.before_flush a }) in
    let way : x.stop ≡ None → (later : List Segment) → end_of_log base start (given_in given ++ later) ≡ way_on (activated x s) later =
    λ q later. h.goes_on q later ∙ same_way x (activated x s) later (ap (λ (z : StandbyState). z.last) f.standby) (ap (λ (z : StandbyState). z.namespace) f.standby) refl in
    let S : List Tx → Lanes → Type 0 = λ txs ls. Stands start base txs ls (standby_of (shadow_with_past past s)) in
    let W : List Tx → Lanes → Type 0 = λ txs ls. IsWhole start txs (items ls) (past ++ s.history) in
    let P : Lanes → Type 0 = λ ls. ShowsPicture s.namespace (items ls) (tables_of (standby_of s)) in (
      record {
        stands = subst (λ ls. S (log_in base given) ls) lanes (subst (λ txs. S txs (lanes_of x)) log by.0);
        whole = subst (λ ls. W (log_in base given) ls) lanes (subst (λ txs. W txs (lanes_of x)) log by.1);
        picture = subst P lanes by.2;
        none_held = ap (λ (z : StandbyState). z.held) f.standby;
        ended = e;
        log_end = ap (end_of_log base start) (sym (append-nil (given_in given))) ∙ way n [] ∙ ap (λ r. end_behind s.last s.namespace r []) r ∙ behind_none s.last s.namespace [] ∙ no_more s.last s.namespace;
        taken = t;
      },
      record { txs = h.txs; shadow = by.0; before_flush = λ q. absurd (let z : true ≡ false = q in cc); log = h.log; goes_on = way; stops = h.stops; ended = λ _. (r, e, t) },
    )
