use Rattle.std.proofs.Common.{Some, None, refl, sym, ap, subst, ◌∙◌, arith}
use Rattle.std.specs.FinMap.Entries.{put}
use Rattle.std.specs.Ordering.{nat_cmp}
use Rattle.nn_replicas.specs.Entry.{live_cells}
use Rattle.nn_replicas.specs.Figures.{IsChange}
use Rattle.nn_replicas.proofs.Written.{entry}
use Rattle.nn_replicas.proofs.Recounted.{same_if, other_if, changed_of, none_told, may_recount, recounts, stands_same, stands_open, came, went}
use Rattle.nn_replicas.proofs.entry.Entry.recount.Goals as goal

pub returns-in_default : goal.returns-in_default
returns-in_default c =
    λ e dn h s m. none_told c.args.min dn c.args.figures.now e c.args.self.now _ c.self.inside.file c.self.view_is s (subst (IsChange e dn c.args.self.now) c.in_default.is h) m

pub recount-requires : goal.recount-requires
recount-requires c =
    let r = c.requires in
    let h = changed_of r.0 r.1 c.args.self.now c.in-Some.change (subst (IsChange r.0 r.1 c.args.self.now) c.in-Some.is r.2) in
    may_recount c.args.min r.1 c.args.figures.now r.0 c.args.self.now _ c.self.inside.file c.self.view_is h.0 h.1 r.3 r.4 c.in-Some.change h.2

pub returns-then-lived-lives : goal.returns-then-lived-lives
returns-then-lived-lives c =
    λ e dn g s m.
    let h = changed_of e dn c.args.self.now c.in-Some.change (subst (IsChange e dn c.args.self.now) c.in-Some.is g) in
    recounts c.args.min dn c.args.figures.now e c.args.self.now _ c.self.inside.file c.self.view_is h.0 h.1 s m c.in-Some.change h.2 c.recount.new.self c.recount.ensures
    (stands_same c.args.min dn c.args.figures.now e c.args.self.now _ c.self.inside.file c.self.view_is h.0 h.1 s m c.in-Some.change h.2 (sym c.is_live-lived.ensures ∙ same_if _ _ c.if-lived-lives.true ∙ c.is_live-lives.ensures))

pub returns-in_default-file : goal.returns-in_default-file
returns-in_default-file c =
    λ e dn g s m.
    let h = changed_of e dn c.args.self.now c.in-Some.change (subst (IsChange e dn c.args.self.now) c.in-Some.is g) in
    let v = ap (λ f. entry f c.self.inside.cells.items) (sym c.in_default-file.is) ∙ c.self.view_is in
    recounts c.args.min dn c.args.figures.now e c.args.self.now _ None v h.0 h.1 s m c.in-Some.change h.2 c.recount.new.self c.recount.ensures refl

pub returns-then-not-file : goal.returns-then-not-file
returns-then-not-file c =
    λ e dn g s m.
    let h = changed_of e dn c.args.self.now c.in-Some.change (subst (IsChange e dn c.args.self.now) c.in-Some.is g) in
    let v = ap (λ f. entry f c.self.inside.cells.items) (sym c.in-Some-file.is) ∙ c.self.view_is in
    recounts c.args.min dn c.args.figures.now e c.args.self.now _ (Some c.in-Some-file.file) v h.0 h.1 s m c.in-Some.change h.2 c.recount.new.self c.recount.ensures
    (stands_open c.args.min c.in-Some-file.file e.cells (put nat_cmp dn h.0 e.cells) c.if-not-file.true)

pub live_came-requires : goal.live_came-requires
live_came-requires c =
    let r = c.requires in
    let stood =
    let h = changed_of r.0 r.1 c.args.self.now c.in-Some.change (subst (IsChange r.0 r.1 c.args.self.now) c.in-Some.is r.2) in
    let v = ap (λ f. entry f c.self.inside.cells.items) (sym c.in-Some-file.is) ∙ c.self.view_is in
    let live = c.live_in-live.ensures ∙ ap (live_cells c.in-Some-file.file.block) c.as_slice.ensures in
    let other = sym c.is_live-lived.ensures ∙ other_if _ _ _ c.if-lived-lives.false c.if-lives.true in
    came c.args.min r.1 c.args.figures.now r.0 c.args.self.now _ c.in-Some-file.file v h.0 h.1 r.3 r.4 c.in-Some.change h.2 c.recount.new.self c.recount.ensures c.if-not-file.false c.live_in-live.result live
    other (sym c.is_live-lives.ensures ∙ c.if-lives.true) in
    record { one = stood.0; may = stood.1.0 }

pub live_went-requires : goal.live_went-requires
live_went-requires c =
    let r = c.requires in
    let stood =
    let h = changed_of r.0 r.1 c.args.self.now c.in-Some.change (subst (IsChange r.0 r.1 c.args.self.now) c.in-Some.is r.2) in
    let v = ap (λ f. entry f c.self.inside.cells.items) (sym c.in-Some-file.is) ∙ c.self.view_is in
    let live = c.live_in-live.ensures ∙ ap (live_cells c.in-Some-file.file.block) c.as_slice.ensures in
    let other = sym c.is_live-lived.ensures ∙ other_if _ _ _ c.if-lived-lives.false c.if-lives.false in
    went c.args.min r.1 c.args.figures.now r.0 c.args.self.now _ c.in-Some-file.file v h.0 h.1 r.3 r.4 c.in-Some.change h.2 c.recount.new.self c.recount.ensures c.if-not-file.false c.live_in-live.result live
    other (sym c.is_live-lives.ensures ∙ c.if-lives.false) in
    record { one = omega arith; may = stood.0 }

pub returns-then-lives : goal.returns-then-lives
returns-then-lives c =
    λ e dn g s m.
    let stood =
    let h = changed_of e dn c.args.self.now c.in-Some.change (subst (IsChange e dn c.args.self.now) c.in-Some.is g) in
    let v = ap (λ f. entry f c.self.inside.cells.items) (sym c.in-Some-file.is) ∙ c.self.view_is in
    let live = c.live_in-live.ensures ∙ ap (live_cells c.in-Some-file.file.block) c.as_slice.ensures in
    let other = sym c.is_live-lived.ensures ∙ other_if _ _ _ c.if-lived-lives.false c.if-lives.true in
    came c.args.min dn c.args.figures.now e c.args.self.now _ c.in-Some-file.file v h.0 h.1 s m c.in-Some.change h.2 c.recount.new.self c.recount.ensures c.if-not-file.false c.live_in-live.result live
    other (sym c.is_live-lives.ensures ∙ c.if-lives.true) in
    c.live_came.ensures ∙ stood.1.1

pub returns : goal.returns
returns c =
    λ e dn g s m.
    let stood =
    let h = changed_of e dn c.args.self.now c.in-Some.change (subst (IsChange e dn c.args.self.now) c.in-Some.is g) in
    let v = ap (λ f. entry f c.self.inside.cells.items) (sym c.in-Some-file.is) ∙ c.self.view_is in
    let live = c.live_in-live.ensures ∙ ap (live_cells c.in-Some-file.file.block) c.as_slice.ensures in
    let other = sym c.is_live-lived.ensures ∙ other_if _ _ _ c.if-lived-lives.false c.if-lives.false in
    went c.args.min dn c.args.figures.now e c.args.self.now _ c.in-Some-file.file v h.0 h.1 s m c.in-Some.change h.2 c.recount.new.self c.recount.ensures c.if-not-file.false c.live_in-live.result live
    other (sym c.is_live-lives.ensures ∙ c.if-lives.false) in
    c.live_went.ensures ∙ stood.1
