-- No body promotes over a gap: where a segment was given that begins above the next transaction, no standby is Promoted.
use Rattle.std.proofs.Common.{◌≡◌, ℕ, ◌+◌, ◌<◌, Bool, true, false, List, [], ◌∷◌, ◌++◌, Result, Ok, Err, refl, sym, ap, ◌∙◌}
use Rattle.std.specs.Prelude.{nat_lt, if◌then◌else◌}
use Rattle.nn_model.specs.Namespace.{Namespace}
use Rattle.nn_model.specs.Log.{counted as news}
use Rattle.nn_segment.specs.Segment.{Segment, first_txid}
use Rattle.nn_segment.specs.Source.{Answer, given}
use Rattle.nn_segment.specs.LogEnd.{disorder, LogStop, LogEnd, end_of_txs, and_then, end_of_log, given_in}
use Rattle.nn_lane_standby.specs.Tailing.{Standby}
use Rattle.nn_lane_standby.specs.Promotion.{Promoted}
use Rattle.nn_segment.proofs.Asks.{given-append}
use Rattle.nn_lane_standby.proofs.LogEnds.{behind_gap}

abbrev unless : Bool → LogStop → Result LogEnd LogStop → Result LogEnd LogStop
unless b stop r = if b then Err stop else r

unless_then : (b : Bool) (stop : LogStop) (r : Result LogEnd LogStop) (g : LogEnd → Result LogEnd LogStop) → and_then (unless b stop r) g ≡ unless b stop (and_then r g)
unless_then true stop r g = refl
unless_then false stop r g = refl

then_then : (r : Result LogEnd LogStop) (f g : LogEnd → Result LogEnd LogStop) → and_then (and_then r f) g ≡ and_then r (λ e. and_then (f e) g)
then_then (Ok e) f g = refl
then_then (Err stop) f g = refl

-- a log of segments goes on where the first ones end
pub end-append : (last : ℕ) (n : Namespace) (ss ts : List Segment) → end_of_log last n (ss ++ ts) ≡ and_then (end_of_log last n ss) (λ e. end_of_log e.last e.namespace ts)
unfolding end_of_log
end-append last n [] ts = refl
end-append last n (s ∷ ss) ts =
    let b : Bool = nat_lt (last + 1) (first_txid s.txs) in
    let stop : LogStop = record { cause = disorder; txid = last + 1 } in
    let r : Result LogEnd LogStop = end_of_txs last n (news last s.txs) in
    let f : LogEnd → Result LogEnd LogStop = λ e. end_of_log e.last e.namespace ss in
    let g : LogEnd → Result LogEnd LogStop = λ e. end_of_log e.last e.namespace ts in
    (λ j. unless b stop (and_then r (λ e. end-append e.last e.namespace ss ts j)))
    ∙ ap (unless b stop) (sym (then_then r f g)) ∙ sym (unless_then b stop (and_then r f) g)

no_end : (stop : LogStop) (e : LogEnd) → Err stop ≡ Ok e → ⊥
no_end stop e q = cc

pub not_over_a_gap : (start : Namespace) (base : ℕ) (before after : List Answer) (p : Segment) (e : LogEnd) (x : Standby)
    → end_of_log base start (given_in before) ≡ Ok e → e.last + 1 < first_txid p.txs → Promoted start base (before ++ given p ∷ after) x → ⊥
not_over_a_gap start base before after p e x is high h =
    let end : LogEnd = record { last = x.shadow.last; namespace = x.shadow.namespace } in
    no_end (record { cause = disorder; txid = e.last + 1 }) end
    (sym (behind_gap e.last e.namespace p (given_in after) high)
    ∙ sym (ap (λ r. and_then r (λ z. end_of_log z.last z.namespace (p ∷ given_in after))) is)
    ∙ sym (end-append base start (given_in before) (p ∷ given_in after))
    ∙ ap (end_of_log base start) (sym (given-append before (given p ∷ after)))
    ∙ h.log_end)
