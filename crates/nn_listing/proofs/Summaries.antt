-- The summary of a standby is the one of what it shows.
use Rattle.std.proofs.Common.{◌≡◌, ℕ, zero, suc, ◌+◌, ◌-◌, ◌<◌, ◌∷◌, length, refl, ap, arith}
use Rattle.std.specs.List.{range_with_len}
use Rattle.nn_model.specs.Counts.{safe_mode_of}
use Rattle.nn_model.specs.Lanes.{Lanes}
use Rattle.nn_tree.specs.Sizes.{files_of, directories_of}
use Rattle.nn_replicas.specs.Calls.{replica_at}
use Rattle.nn_replicas.proofs.Ties.{counts_agree}
use Rattle.nn_shadow.specs.Contents.{Shadow, standby_of, IsConsistent}
use Rattle.nn_listing.specs.Tables.{datanodes, IsOfSaid}
use Rattle.nn_listing.specs.Counted.{sender_seen, summary_seen}
use Rattle.nn_listing.specs.Summary.{summary_of}
use Rattle.nn_listing.proofs.TableLines.{orders_counted}

pub summary_is : (x : Shadow) (lanes : Lanes) → IsConsistent x → IsOfSaid x.namespace lanes x.table → summary_seen x ≡ summary_of x.permille x.table.min lanes (standby_of x)
summary_is x lanes c said =
    let counts = counts_agree x.namespace x.table c.well_formed.blocks c.shows in
    λ i. record {
      txid = x.last;
      held = length x.held;
      senders = sender_seen x;
      counts = record {
        files = files_of x.namespace;
        directories = directories_of x.namespace;
        blocks = counts.blocks i;
        missing = counts.missing i;
        missing_of_one = counts.missing_of_one i;
        under_replicated = counts.under_replicated i;
        over_replicated = counts.over_replicated i;
        stale = counts.stale i;
        ahead = counts.ahead i;
        wrong_length = counts.wrong_length i;
        orders = orders_counted x.namespace lanes x.table said i;
      };
      mode = safe_mode_of x.permille x.table.min x.namespace (replica_at x.table);
    }

-- ---- DataNodes in turn

-- the first of those that are left
pub one_datanode : (count dn : ℕ) → dn < count → range_with_len (dn + 1) (count - dn) ≡ (dn + 1) ∷ range_with_len (dn + 1 + 1) (count - (dn + 1))
one_datanode count dn some = at (count - dn) (count - (dn + 1)) (omega (arith, some))
  where
    at : (n k : ℕ) → n ≡ k + 1 → range_with_len (dn + 1) n ≡ (dn + 1) ∷ range_with_len (dn + 1 + 1) k
    at zero k e = absurd (omega (arith, e))
    at (suc n) k e = let same : n ≡ k = omega (arith, e) in ap (λ j. (dn + 1) ∷ range_with_len (dn + 1 + 1) j) same

pub all_datanodes : datanodes ≡ range_with_len 1 256
unfolding datanodes
all_datanodes = refl
