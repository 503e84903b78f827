-- What the code answers is what the definition's service answers.
use Rattle.std.proofs.Common.{◌≡◌, ℕ, map, Option, sym, ap, ap₂, ◌∙◌}
use Rattle.nn_model.specs.Namespace.{Path, lookup}
use Rattle.nn_model.specs.Stands.{StandbyState}
use Rattle.nn_model.specs.declared.form.Form.{Form}
use Rattle.nn_replicas.specs.Calls.{replica_at}
use Rattle.nn_shadow.specs.Contents.{standby_of}
use Rattle.nn_model.specs.Items.{items}
use Rattle.nn_shadow.specs.Contents.{IsConsistent}
use Rattle.nn_listing.specs.Summary.{summary_of}
use Rattle.nn_listing.proofs.Summaries.{summary_is}
use Rattle.nn_live.proofs.Tabling.{of_said}
use Rattle.nn_live.specs.Answers.{block_answer, replicas_answer, held_line, path_answer, first_lines, status_lines}
use Rattle.nn_listing.specs.Safety.{unsafe_in}
use Rattle.nn_live.specs.Live.{LiveSetup, ServiceState, does, live_figures, says}
use Rattle.nn_live.specs.Serving.{Service, IsAtService, FollowsStep, figures_seen}
use Rattle.nn_live.specs.declared.word.Word.TheVariants as word
use Rattle.nn_live.proofs.Places.{only_tells}

module _ (x : Service) where
  figures_are : IsConsistent x.shadow → (asked : LiveSetup) (s : ServiceState) → IsAtService asked x s → figures_seen x ≡ live_figures asked s
  figures_are c asked s i = λ j. record {
    stopped = (i.phase j).stopped;
    active = (i.phase j).active;
    version = (sym i.asks j).version;
    known = i.known j;
    epoch = i.epoch j;
    promoted = i.promoted j;
    full = λ dn. i.full dn j;
    passed = i.passed j;
    segments = i.segments j;
    edits = i.in_hand.edits j;
    last_edit = i.in_hand.last j;
    standby = (summary_is x.shadow (items s.sent) c (of_said x c.shows asked s i)
        ∙ (λ k. summary_of (sym i.asks k).permille (sym i.asks k).min (items s.sent) (i.standby k))) j;
  }

  pub status_told : IsConsistent x.shadow → FollowsStep (λ asked s. does asked word.Status s) x x (status_lines (figures_seen x))
  status_told c = only_tells (λ asked s. does asked word.Status s) x _ (λ asked s i. ap (λ f. says (status_lines f) s) (sym (figures_are c asked s i)))

  pub held_told : (most : Option ℕ) → FollowsStep (λ asked s. does asked (word.Held most) s) x x (first_lines most (map held_line x.shadow.held))
  held_told most = only_tells (λ asked s. does asked (word.Held most) s) x _ (λ asked s i. ap (λ (y : StandbyState). says (first_lines most (map held_line y.held)) s) (sym i.standby))

  pub path_told : (p : Path) (found : Option Form) → found ≡ lookup x.shadow.namespace p → FollowsStep (λ asked s. does asked (word.Path p) s) x x (path_answer p found)
  path_told p found is = only_tells (λ asked s. does asked (word.Path p) s) x _ (λ asked s i.
      (sym (ap (λ o. says (path_answer p o) s) is ∙ ap (λ (y : StandbyState). says (path_answer p (lookup y.namespace p)) s) i.standby)))

  pub unsafe_told : (most : Option ℕ) → FollowsStep (λ asked s. does asked (word.Unsafe most) s) x x (first_lines most (unsafe_in x.shadow.table.min (replica_at x.shadow.table) x.shadow.namespace.rows))
  unsafe_told most = only_tells (λ asked s. does asked (word.Unsafe most) s) x _ (λ asked s i.
      ap₂ (λ (y : StandbyState) (a : LiveSetup). says (first_lines most (unsafe_in a.min y.replica y.namespace.rows)) s) (sym i.standby) i.asks)

  pub block_told : (id : ℕ) → FollowsStep (λ asked s. does asked (word.Block id) s) x x (block_answer (standby_of x.shadow) id)
  block_told id = only_tells (λ asked s. does asked (word.Block id) s) x _ (λ asked s i. ap (λ (y : StandbyState). says (block_answer y id) s) (sym i.standby))

  pub replicas_told : (id : ℕ) → FollowsStep (λ asked s. does asked (word.Replicas id) s) x x (replicas_answer (standby_of x.shadow) id)
  replicas_told id = only_tells (λ asked s. does asked (word.Replicas id) s) x _ (λ asked s i. ap (λ (y : StandbyState). says (replicas_answer y id) s) (sym i.standby))
