-- The index after a file's list was replaced.
use Rattle.std.proofs.Common.{inl, inr, ◌≡◌, ℕ, Bool, true, false, cond, ◌≤◌, ◌+◌, List, map, drop, [], ◌∷◌, length, Option, Some, None, is_some, refl, sym, ap, subst, ◌∙◌, arith}
use Rattle.std.specs.Prelude.{◌==◌, option_map}
use Rattle.std.proofs.lemmas.Bool.{both_ways, eqb-true, eq-eqb, ne_eqb, not-false, and_parts, and_from}
use Rattle.nn_types.specs.declared.block.Block.{Block}
use Rattle.nn_types.specs.declared.edit.Edit.TheVariants as edit
use Rattle.nn_types.specs.LawfulEdit.{IsTypedEdit}
use Rattle.nn_types.specs.Path.{AreUtf8}
use Rattle.nn_model.proofs.Utf8Names.{row_utf8}
use Rattle.nn_model.proofs.Trees.{stays_well_formed}
use Rattle.nn_model.specs.declared.form.Form.TheVariants.{Dir, File}
use Rattle.nn_model.specs.declared.form.FileRow.{FileRow}
use Rattle.nn_model.specs.Namespace.{Namespace, lookup, file_at, file_or_none}
use Rattle.nn_model.specs.Apply.{first_fault, refusal, effect, list_checks, with_blocks, keeps_ids}
use Rattle.nn_model.specs.Blocks.{block_row}
use Rattle.nn_model.specs.Touched.{listed, ids_of}
use Rattle.nn_model.specs.WellFormed.{Includes, times, IsWellFormed}
use Rattle.nn_model.proofs.Dues.{all_none, when_none, stands_times}
use Rattle.nn_model.proofs.Wells.{times_put}
use Rattle.nn_model.specs.Namespace.{Path}
use Rattle.nn_model.specs.declared.form.BlockRow.{BlockRow}
use Rattle.nn_tree.specs.View.{IsKept, renewed}
use Rattle.nn_tree.proofs.Indexed.{old_blocks}
use Rattle.nn_tree.proofs.Kept.{put_index, old_own}

head_id : (a y : Block) (old new : List Block) → keeps_ids (a ∷ old) (y ∷ new) ≡ true → a.id ≡ y.id
head_id a y old new ids = eqb-true a.id y.id (and_parts (a.id == y.id) (keeps_ids old new) ids).0

tail_ids : (a y : Block) (old new : List Block) → keeps_ids (a ∷ old) (y ∷ new) ≡ true → keeps_ids old new ≡ true
tail_ids a y old new ids = (and_parts (a.id == y.id) (keeps_ids old new) ids).1

old_one : (old new : List Block) (b : Block) → keeps_ids old new ≡ true → Includes new b → (o : Block) × Includes old o × (o.id ≡ b.id)
old_one old [] b ids here = absurd here
old_one [] (y ∷ new) b ids here = absurd (both_ways _ refl ids)
old_one (a ∷ old) (y ∷ new) b ids (inl e) = (a, inl refl, head_id a y old new ids ∙ ap (λ z. z.id) e)
old_one (a ∷ old) (y ∷ new) b ids (inr later) = let o = old_one old new b (tail_ids a y old new ids) later in (o.0, inr o.1, o.2)

renewed_away : (look : ℕ → Option BlockRow) (closed : Bool) (old new : List Block) (id : ℕ) → keeps_ids old new ≡ true → ((x : Block) → Includes old x → x.id ≡ id → ⊥) → renewed look old new closed id ≡ look id
renewed_away look closed [] new id ids away = refl
renewed_away look closed (a ∷ old) [] id ids away = ap (λ b. cond b None (look id)) (ne_eqb a.id id (away a (inl refl)))
renewed_away look closed (a ∷ old) (y ∷ new) id ids away =
    let rest = renewed look old new closed id in
    ap (λ b. cond b (option_map (λ _. record { block = y; closed = closed }) rest) rest) (ne_eqb y.id id (λ e. away a (inl refl) (head_id a y old new ids ∙ e)))
    ∙ renewed_away look closed old new id (tail_ids a y old new ids) (λ x h. away x (inr h))

write_some : (o : Option BlockRow) (row : BlockRow) → is_some o ≡ true → option_map (λ _. row) o ≡ Some row
write_some (Some x) row h = refl
write_some None row h = absurd (both_ways _ refl h)

one_more : (a : Block) (old : List Block) (id : ℕ) → a.id ≡ id → times id (a ∷ old) ≤ 1 → times id old ≡ 0
one_more a old id e h = let t : cond (a.id == id) 1 0 + times id old ≤ 1 = h in let u : 1 + times id old ≤ 1 = subst (λ b. cond b 1 0 + times id old ≤ 1) (eq-eqb a.id id e) t in omega (arith, u)

fewer : (a : Block) (old : List Block) (id : ℕ) → times id (a ∷ old) ≤ 1 → times id old ≤ 1
fewer a old id h = omega (arith, h)

renewed_has : (look : ℕ → Option BlockRow) (closed : Bool) (old new : List Block) (b : Block) → keeps_ids old new ≡ true → times b.id old ≤ 1 → is_some (look b.id) ≡ true → Includes new b → renewed look old new closed b.id ≡ Some (record { block = b; closed = closed })
renewed_has look closed old [] b ids once there here = absurd here
renewed_has look closed [] (y ∷ new) b ids once there here = absurd (both_ways _ refl ids)
renewed_has look closed (a ∷ old) (y ∷ new) b ids once there (inl e) =
    let rest = renewed look old new closed b.id in
    let row : BlockRow = record { block = y; closed = closed } in
    let same : a.id ≡ b.id = head_id a y old new ids ∙ ap (λ z. z.id) e in
    ap (λ t. cond t (option_map (λ _. row) rest) rest) (eq-eqb y.id b.id (ap (λ z. z.id) e))
    ∙ ap (option_map (λ _. row)) (renewed_away look closed old new b.id (tail_ids a y old new ids) (λ x h is. let m = stands_times old x b.id h is in let z = one_more a old b.id same once in omega (arith, m, z)))
    ∙ write_some (look b.id) row there ∙ ap (λ z. Some (record { block = z; closed = closed })) e
renewed_has look closed (a ∷ old) (y ∷ new) b ids once there (inr later) =
    let rest = renewed look old new closed b.id in
    let row : BlockRow = record { block = y; closed = closed } in
    let o = old_one old new b (tail_ids a y old new ids) later in
    ap (λ t. cond t (option_map (λ _. row) rest) rest) (ne_eqb y.id b.id (λ e. let m = stands_times old o.0 b.id o.1 o.2 in let z = one_more a old b.id (head_id a y old new ids ∙ e) once in omega (arith, m, z)))
    ∙ renewed_has look closed old new b (tail_ids a y old new ids) (fewer a old b.id once) there later

renewed_gone : (look : ℕ → Option BlockRow) (closed : Bool) (old new : List Block) (a : Block) → keeps_ids old new ≡ true → Includes old a → ((z : Block) → Includes new z → z.id ≡ a.id → ⊥) → renewed look old new closed a.id ≡ None
renewed_gone look closed [] new a ids here away = absurd here
renewed_gone look closed (x ∷ []) [] a ids (inl e) away = ap (λ b. cond b None (look a.id)) (eq-eqb x.id a.id (ap (λ z. z.id) e))
renewed_gone look closed (x ∷ []) [] a ids (inr h) away = absurd h
renewed_gone look closed (x ∷ c ∷ old) [] a ids here away = absurd (both_ways _ refl ids)
renewed_gone look closed (x ∷ old) (y ∷ new) a ids (inl e) away = absurd (away y (inl refl) (sym (head_id x y old new ids) ∙ ap (λ z. z.id) e))
renewed_gone look closed (x ∷ old) (y ∷ new) a ids (inr h) away =
    let rest = renewed look old new closed a.id in
    ap (λ t. cond t (option_map (λ _. record { block = y; closed = closed }) rest) rest) (ne_eqb y.id a.id (away y (inl refl)))
    ∙ renewed_gone look closed old new a (tail_ids x y old new ids) h (λ z k. away z (inr k))

list_stays : (n : Namespace) (p : Path) (bs : List Block) (closed : Bool) → IsTypedEdit (edit.Close p bs) → first_fault (list_checks n p bs) ≡ None → IsWellFormed n → IsWellFormed (with_blocks n p bs closed)
list_stays n p bs true l lawful w = stays_well_formed n (edit.Close p bs) l.0 lawful w
list_stays n p bs false l lawful w = stays_well_formed n (edit.UpdateBlocks p bs) l.0 lawful w

-- a list with the same ids instead of a file's, in a file that is closed or open now
written_kept : (n : Namespace) (p : Path) (bs : List Block) (closed : Bool) (x : FileRow) (look next : ℕ → Option BlockRow) → keeps_ids (file_at n p).blocks bs ≡ true → AreUtf8 p → IsWellFormed (with_blocks n p bs closed) → lookup n p ≡ Some (File x) → ((q : ℕ) → next q ≡ renewed look (file_at n p).blocks bs closed q) → IsKept n look → IsKept (with_blocks n p bs closed) next
written_kept n p bs closed x look next ids names well was goes k =
    let f = file_at n p in
    let y : FileRow = record { replication = f.replication; closed = closed; blocks = bs } in
    let stood : (o : Block) → Includes f.blocks o → look o.id ≡ Some (record { block = o; closed = x.closed }) = λ o h. k.index.complete (record { block = o; closed = x.closed }) (p, File x, was, (refl, subst (λ r. Includes (old_blocks r) o) was h)) in
    let once : (id : ℕ) → times id f.blocks ≤ 1 = λ id. omega (arith, times_put id p Dir n.rows k.well.blocks.in_order, k.well.blocks.once id) in
    record {
      well = well;
      utf8 = row_utf8 n k.utf8 p (File y) names;
      index = put_index n p (File y) look next (record {
        own = old_own n p (File y) k.well.blocks (λ z h. old_one f.blocks bs z ids h);
        written = λ c h.
            let o = old_one f.blocks bs c.block ids h.1 in
            goes c.block.id ∙ renewed_has look closed f.blocks bs c.block ids (once c.block.id) (ap is_some (ap look (sym o.2) ∙ stood o.0 o.1)) h.1 ∙ ap (λ t. Some (record { block = c.block; closed = t })) (sym h.0);
        kept = λ id away before. goes id ∙ renewed_away look closed f.blocks bs id ids before;
        gone = λ z old away. goes z.id ∙ renewed_gone look closed f.blocks bs z ids old away;
      }) k.index;
    }

pub list_kept : (n : Namespace) (p : Path) (bs : List Block) (closed : Bool) (x : FileRow) (look next : ℕ → Option BlockRow) → IsTypedEdit (edit.Close p bs) → first_fault (list_checks n p bs) ≡ None → lookup n p ≡ Some (File x) → ((q : ℕ) → next q ≡ renewed look (file_at n p).blocks bs closed q) → IsKept n look → IsKept (with_blocks n p bs closed) next
list_kept n p bs closed x look next l lawful was goes k =
    let found = all_none (list_checks n p bs) lawful in
    written_kept n p bs closed x look next (not-false _ (when_none _ _ found.1.1.1.1.1.0)) l.1 (list_stays n p bs closed l lawful k.well) was goes k

keeps_itself : (bs : List Block) → keeps_ids bs bs ≡ true
keeps_itself [] = refl
keeps_itself (b ∷ bs) = and_from (b.id == b.id) (keeps_ids bs bs) (eq-eqb b.id b.id refl) (keeps_itself bs)

pub append_kept : (n : Namespace) (p : Path) (x : FileRow) (look next : ℕ → Option BlockRow) → IsTypedEdit (edit.Append p) → refusal n (edit.Append p) ≡ None → lookup n p ≡ Some (File x) → ((q : ℕ) → next q ≡ renewed look (file_at n p).blocks (file_at n p).blocks false q) → IsKept n look → IsKept (effect n (edit.Append p)) next
append_kept n p x look next l applies was goes k =
    written_kept n p (file_at n p).blocks false x look next (keeps_itself (file_at n p).blocks) l.1 (stays_well_formed n (edit.Append p) l.0 applies k.well) was goes k

-- what a new list touched
pub list_touched : (n : Namespace) (p : Path) (bs : List Block) (closed : Bool) (x : FileRow) → lookup n p ≡ Some (File x) →
    record { changed = map (λ b. block_row closed b) bs; retired = ids_of (drop (length bs) x.blocks); skipped = None } ≡ listed n p bs closed
list_touched n p bs closed x was =
    ap (λ (f : FileRow). record { changed = map (λ b. block_row closed b) bs; retired = ids_of (drop (length bs) f.blocks); skipped = None }) (sym (ap file_or_none was))
