use Rattle.std.proofs.Common.{ℕ, ◌++◌, codes, refl, sym, subst, ap}
use Rattle.std.specs.Prelude.{decimal}
use Rattle.nn_device.specs.Page.{PutsPiece}
use Rattle.nn_device.proofs.Pages.{puts_both}
use Rattle.nn_listing.specs.Summary.{line}
use Rattle.nn_live.specs.Live.{ServiceState, does, says, says_done}
use Rattle.nn_live.specs.Serving.{Service}
use Rattle.nn_live.proofs.Breaking.{first_tells}
use Rattle.nn_live.proofs.Places.{on_err, only_tells, then_makes}
use Rattle.nn_live.proofs.service.Service.answer.Goals as goal

pub returns-clause-ok : goal.returns-clause-ok
returns-clause-ok g c =
    let y = c.does.new.self in
    let one = c.in_ok-does.ensures.ok in
    let done : ℕ → ServiceState → ServiceState = λ l s. says (line (codes "done") (decimal l)) s in
    let text = line (codes "done") (decimal y.lines) in
    let last = only_tells (λ asked s. done s.lines s) y text (λ asked s i. ap (λ l. done l s) (sym i.lines)) in
    let both = then_makes (λ asked s. does asked c.args.word.now s) (λ asked s. done s.lines s) c.args.self.now y y one.0 text one.2 last in
    let put = subst (λ (v : Service). PutsPiece (line (codes "done") (decimal v.lines)) c.does.new.page c.does.new.writer c.put_count.new.page c.put_count.new.writer) c.self.view_is c.put_count.ensures in
    (one.0 ++ text, puts_both one.0 text _ _ _ _ _ _ one.1 put, both)

pub returns-in_err-does-clause-prefix : goal.returns-in_err-does-clause-prefix
returns-in_err-does-clause-prefix g c =
    let prefix = c.in_err-does.ensures.prefix in
    let breaks = first_tells (λ asked s. does asked c.args.word.now s) (λ asked s. says_done s) c.args.self.now prefix.0 (λ asked s. (line (codes "done") (decimal s.lines), refl, λ none. absurd (cc))) prefix.2 in
    on_err _ c.from_residual.result (prefix.0, prefix.1, breaks)
