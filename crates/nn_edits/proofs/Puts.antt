-- Members that are put to others.
use Rattle.std.proofs.Common.{◌≡◌, ℕ, List, Bool, true, false, cond, bytes_eq, Result, refl, sym, ap, ap₂, ◌∙◌}
use Rattle.std.specs.Option.{ok_or}
use Rattle.std.proofs.lemmas.Slice.Eq.{bytes_eq-Decides}
use Rattle.std.proofs.lemmas.Bool.{false≢true}
use Rattle.serde_json.specs.Data.{Data, Members, object, put}
use Rattle.serde_json.proofs.Views.{get_member-put, get_member-put_other}
use Rattle.nn_edits.specs.Outcome.{◌>>=◌}
use Rattle.nn_edits.specs.Reading.{field, whole_in}
use Rattle.nn_edits.specs.Parts.{number_of_value}
use Rattle.nn_edits.specs.declared.fault.LineFault.{LineFault}
use Rattle.nn_edits.specs.declared.fault.LineFault.TheVariants.{MissingField}

pub member_put : {A : Type 0} (f : Data → Result A LineFault) (q k : List ℕ) (d : Data) (found : Members) → (field q (object (put k d found)) >>= f) ≡ cond (bytes_eq k q) (f d) (field q (object found) >>= f)
member_put f q k d found = at (bytes_eq k q) refl
  where
    at : (t : Bool) → bytes_eq k q ≡ t → (field q (object (put k d found)) >>= f) ≡ cond t (f d) (field q (object found) >>= f)
    at true e =
        let same = (bytes_eq-Decides k q).0 e in
        ap (λ (x : List ℕ). field x (object (put k d found)) >>= f) (sym same) ∙ ap (λ o. ok_or o MissingField >>= f) (get_member-put k d found)
    at false e = ap (λ o. ok_or o MissingField >>= f) (get_member-put_other q k d found (λ (h : q ≡ k). false≢true (sym e ∙ (bytes_eq-Decides k q).1 (sym h))))

pub whole_put : (q k : List ℕ) (d : Data) (found : Members) → whole_in q (object (put k d found)) ≡ cond (bytes_eq k q) (number_of_value d) (whole_in q (object found))
unfolding whole_in
whole_put q k d found = member_put number_of_value q k d found

pub kept : (q k : List ℕ) (d : Data) (found : Members) (new m old : Result ℕ LineFault) → new ≡ cond (bytes_eq k q) m old → m ≡ number_of_value d → old ≡ whole_in q (object found) → new ≡ whole_in q (object (put k d found))
kept q k d found new m old e f g = e ∙ ap₂ (cond (bytes_eq k q)) f g ∙ sym (whole_put q k d found)
