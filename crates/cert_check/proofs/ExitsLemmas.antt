-- Exits are found by their frames, and none that is due is passed over.
use Rattle.std.proofs.Common.{◌≡◌, ℕ, zero, suc, ◌+◌, ◌-◌, ◌<◌, ◌≤◌, refl, sym, ap, ap₂, ◌∙◌, subst, Bool, true, false, cond, inl, inr, Some, arith, List, [], ◌∷◌, ◌++◌, drop, get_or, length, map, min, set, length-drop, drop-drop, get_or-drop, Vec}
use Rattle.std.specs.Prelude.{◌↔◌, ◌||◌, unwrap_or}
use Rattle.std.specs.List.{AllByRecursion, flat_map, list_any}
use Rattle.std.specs.Map.{lookup}
use Rattle.std.specs.Vec.{with_items}
use Rattle.std.specs.declared.alloc.Global.{Global}
use Rattle.std.proofs.lemmas.Bool.{cases_Bool, cond-true, cond-false, true≢false}
use Rattle.std.proofs.lemmas.List.{drop_more, drop-set, length-map, with_items_is}
use Rattle.call_context.specs.Nodes.{frame_of}
use Rattle.call_context.specs.declared.node.Frame.{Frame}
use Rattle.call_context.specs.declared.node.Node.{Node}
use Rattle.call_context.specs.declared.node.Node.TheVariants.{At, Exit}
use Rattle.book_rules.specs.Same.{same_frame}
use Rattle.cert_check.specs.Exits.{AreFirsts, AreNext, StandsAt, cursors_at, due_rows, first_at, frames_of, is_due, least_place, moved, nexts_of, returned}
use Rattle.cert_check.specs.Refusal.{Input, return_from}
use Rattle.cert_check.specs.declared.exits.Cursor.{Cursor}

-- RETURNS

-- the returns from all exits are those from the exits that are due
pub due_returns : {A : Type 0} (node : Node) (state : A) (waits : List Frame) (rows : List (Node × A))
    → flat_map (returned node state) (due_rows waits rows) ≡ flat_map (return_from node state waits) rows
due_returns node state waits [] = refl
due_returns node state waits ((At pc calls frame, left) ∷ rows) = elim (cases_Bool (list_any (same_frame frame) waits)) [
  | inl is ↦ ap (flat_map (returned node state)) (cond-true _ _ _ is) ∙ due_returns node state waits rows
  | inr other ↦ ap (flat_map (returned node state)) (cond-false _ _ _ other) ∙ due_returns node state waits rows
]
due_returns {A} node state waits ((Exit pc frame, left) ∷ rows) = elim (cases_Bool (list_any (same_frame frame) waits)) [
  | inl is ↦
      ap (flat_map (returned node state)) (cond-true _ _ _ is)
      ∙ ap₂ (λ (one others : List (Input A)). one ++ others) (sym (cond-true _ _ _ is)) (due_returns node state waits rows)
  | inr other ↦
      ap (flat_map (returned node state)) (cond-false _ _ _ other) ∙ due_returns node state waits rows
      ∙ ap (λ (one : List (Input A)). one ++ flat_map (return_from node state waits) rows) (sym (cond-false _ _ _ other))
]

-- THE INDEX

-- one more row in front
pub firsts_added : {A : Type 0} (eq : Frame → Frame → Bool) → ((a b : Frame) → eq a b ≡ same_frame a b)
    → (old new : List (Frame × ℕ)) (end place : ℕ)
    (rows : List (Node × A)) (row : Node × A) → place < length rows → row ≡ get_or rows place row
    → ((frame : Frame) → lookup (eq frame) new ≡ cond (eq (frame_of row.0) frame) (Some place) (lookup (eq frame) old))
    → AreFirsts eq old end (place + 1) (drop (place + 1) rows) → AreFirsts eq new end place (drop place rows)
firsts_added {A} eq same old new end place rows row h is writes firsts frame =
    let next : suc place ≡ place + 1 = omega arith in
    let behind = drop (place + 1) rows in
    let split : drop place rows ≡ row ∷ behind = drop_more rows place row h ∙ ap (λ (r : Node × A). r ∷ behind) (sym is) in
    ap (λ o. unwrap_or o end) (writes frame) ∙ by (same_frame (frame_of row.0) frame) refl ∙ ap (first_at frame place) (sym split)
  where
    by : (b : Bool) → same_frame (frame_of row.0) frame ≡ b
        → unwrap_or (cond (eq (frame_of row.0) frame) (Some place) (lookup (eq frame) old)) end ≡ first_at frame place (row ∷ drop (place + 1) rows)
    by true s = ap (λ o. unwrap_or o end) (cond-true _ _ _ (same (frame_of row.0) frame ∙ s)) ∙ sym (cond-true _ _ _ s)
    by false s =
        let next : place + 1 ≡ suc place = omega arith in
        ap (λ o. unwrap_or o end) (cond-false _ _ _ (same (frame_of row.0) frame ∙ s)) ∙ firsts frame
        ∙ ap (λ p. first_at frame p (drop (place + 1) rows)) next ∙ sym (cond-false _ _ _ s)

pub nexts_added : {A : Type 0} (rows : List (Node × A)) (nexts : List ℕ) (place next : ℕ) (row : Node × A)
    → place < length rows → length nexts ≡ length rows
    → row ≡ get_or rows place row → next ≡ first_at (frame_of row.0) (place + 1) (drop (place + 1) rows)
    → drop (place + 1) nexts ≡ nexts_of (place + 1) (drop (place + 1) rows)
    → drop place (set nexts place next) ≡ nexts_of place (drop place rows)
nexts_added {A} rows nexts place next row h same_length is first so_far =
    let one : place + 1 ≡ suc place = omega arith in
    let behind = drop (place + 1) rows in
    let split : drop place rows ≡ row ∷ behind = drop_more rows place row h ∙ ap (λ (r : Node × A). r ∷ behind) (sym is) in
    drop-set nexts place next (omega (arith, same_length))
    ∙ ap₂ (λ (n : ℕ) (ns : List ℕ). n ∷ ns) (first ∙ ap (λ p. first_at (frame_of row.0) p behind) one) (so_far ∙ ap (λ p. nexts_of p behind) one)
    ∙ ap (nexts_of place) (sym split)

pub next_of_row : {A : Type 0} (rows : List (Node × A)) (from k : ℕ) (row : Node × A) (d : ℕ) → k < length rows → row ≡ get_or rows k row
    → get_or (nexts_of from rows) k d ≡ first_at (frame_of row.0) (from + k + 1) (drop (k + 1) rows)
next_of_row [] from k row d h is = absurd (omega (arith, h))
next_of_row {A} (first ∷ rows) from zero row d h is =
    let one : suc from ≡ from + 0 + 1 = omega arith in
    ap (λ (r : Node × A). first_at (frame_of r.0) (suc from) rows) (sym is) ∙ ap (λ p. first_at (frame_of row.0) p rows) one
next_of_row (first ∷ rows) from (suc k) row d h is =
    let one : suc from + k + 1 ≡ from + suc k + 1 = omega arith in
    let more : suc (k + 1) ≡ suc k + 1 = omega arith in
    next_of_row rows (suc from) k row d (omega (arith, h)) is
    ∙ ap₂ (λ p m. first_at (frame_of row.0) p (drop m (first ∷ rows))) one more

pub length_nexts : {A : Type 0} (from : ℕ) (rows : List (Node × A)) → length (nexts_of from rows) ≡ length rows
length_nexts from [] = refl
length_nexts from (row ∷ rows) = ap suc (length_nexts (suc from) rows)

-- CURSORS

-- a first place is none before it
pub first_above : {A : Type 0} (frame : Frame) (place : ℕ) (rows : List (Node × A)) → place ≤ first_at frame place rows
first_above frame place [] = omega arith
first_above frame place (row ∷ rows) = elim (cases_Bool (same_frame (frame_of row.0) frame)) [
  | inl is ↦ omega (arith, cond-true (same_frame (frame_of row.0) frame) place (first_at frame (suc place) rows) is)
  | inr other ↦ omega (arith, cond-false (same_frame (frame_of row.0) frame) place (first_at frame (suc place) rows) other, first_above frame (suc place) rows)
]

pub least_below : (end least : ℕ) (cursors : List Cursor) → least ≤ end → least_place least cursors ≤ end
least_below end least [] h = h
least_below end least (cursor ∷ cursors) h = least_below end (min least cursor.place) cursors (omega arith)

module _ {A : Type 0} where
  -- no place is below one that none of them is below
  least_above : (place least : ℕ) (rows : List (Node × A)) (cursors : List Cursor) → place ≤ least
      → AllByRecursion (StandsAt place rows) cursors → place ≤ least_place least cursors
  least_above place least rows [] h all = h
  least_above place least rows (cursor ∷ cursors) h all =
      let above = first_above cursor.frame place rows in
      let stands = all.0 in
      least_above place (min least cursor.place) rows cursors (omega (arith, above, stands)) all.1

  least_is : (place least : ℕ) (rows : List (Node × A)) (cursors : List Cursor) → place ≡ least
      → AllByRecursion (StandsAt place rows) cursors → least_place least cursors ≡ place
  least_is place least rows cursors h all =
      omega (arith, least_above place least rows cursors (omega (arith, h)) all, least_below least least cursors (omega arith))

  -- a row that is due has the least place
  least_here : (place least : ℕ) (row : Node × A) (rows : List (Node × A)) (cursors : List Cursor) → place ≤ least
      → AllByRecursion (StandsAt place (row ∷ rows)) cursors → is_due (frames_of cursors) row ≡ true → least_place least cursors ≡ place
  least_here place least row rows [] h all due = absurd (true≢false (sym due))
  least_here place least row rows (cursor ∷ cursors) h all due = elim (cases_Bool (same_frame (frame_of row.0) cursor.frame)) [
    | inl is ↦
        let stands : cursor.place ≡ place = all.0 ∙ cond-true _ _ _ is in
        least_is place (min least cursor.place) (row ∷ rows) cursors (omega (arith, stands, h)) all.1
    | inr other ↦
        let above = first_above cursor.frame place (row ∷ rows) in
        let stands = all.0 in
        least_here place (min least cursor.place) row rows cursors (omega (arith, above, stands, h)) all.1
        (sym (ap (λ b. b || is_due (frames_of cursors) row) other) ∙ due)
  ]

  -- past a row that isn't due the cursors stand as before
  still_standing : (place : ℕ) (row : Node × A) (rows : List (Node × A)) (cursors : List Cursor)
      → AllByRecursion (StandsAt place (row ∷ rows)) cursors
      → is_due (frames_of cursors) row ≡ false → AllByRecursion (StandsAt (suc place) rows) cursors
  still_standing place row rows [] all due = tt
  still_standing place row rows (cursor ∷ cursors) all due = elim (cases_Bool (same_frame (frame_of row.0) cursor.frame)) [
    | inl is ↦ absurd (true≢false (sym (ap (λ b. b || is_due (frames_of cursors) row) is) ∙ due))
    | inr other ↦ (
      all.0 ∙ cond-false _ _ _ other,
      still_standing place row rows cursors all.1 (sym (ap (λ b. b || is_due (frames_of cursors) row) other) ∙ due),
    )
  ]

  -- the least of the cursors is so far on, and no row before it is due
  record Settled (rows : List (Node × A)) (cursors : List Cursor) (from least : ℕ) : Type 0 where
    pub far : ℕ
    pub is : least ≡ from + far
    pub within : far ≤ length rows
    pub stand : AllByRecursion (StandsAt (from + far) (drop far rows)) cursors
    pub due : far < length rows → (row : Node × A) → is_due (frames_of cursors) (get_or rows far row) ≡ true
    pub same : due_rows (frames_of cursors) (drop far rows) ≡ due_rows (frames_of cursors) rows

  settled : (rows : List (Node × A)) (cursors : List Cursor) (from end : ℕ) → end ≡ from + length rows
      → AllByRecursion (StandsAt from rows) cursors → Settled rows cursors from (least_place end cursors)
  settled [] cursors from end h all = record {
    far = 0;
    is = least_is from end [] cursors (omega (arith, h)) all ∙ omega arith;
    within = omega arith;
    stand = subst (λ p. AllByRecursion (StandsAt {A = A} p []) cursors) (omega arith) all;
    due = λ below. absurd (omega (arith, below));
    same = refl;
  }
  settled (row ∷ rows) cursors from end h all = elim (cases_Bool (is_due (frames_of cursors) row)) [
    | inl is ↦ record {
      far = 0;
      is = least_here from end row rows cursors (omega (arith, h)) all is ∙ omega arith;
      within = omega arith;
      stand = subst (λ p. AllByRecursion (StandsAt p (row ∷ rows)) cursors) (omega arith) all;
      due = λ below r. is;
      same = refl;
    }
    | inr other ↦
        let more = settled rows cursors (suc from) end (omega (arith, h)) (still_standing from row rows cursors all other) in
        record {
          far = suc more.far;
          is = more.is ∙ omega arith;
          within = omega (arith, more.within);
          stand = subst (λ p. AllByRecursion (StandsAt p (drop more.far rows)) cursors) (omega arith) more.stand;
          due = λ below r. more.due (omega (arith, below)) r;
          same = more.same ∙ sym (cond-false _ _ _ other);
        }
  ]

  -- from a place on the cursors stand at the next row that is due
  pub next_from : (rows : List (Node × A)) (cursors : List Cursor) (place : ℕ) → place ≤ length rows
      → AllByRecursion (StandsAt place (drop place rows)) cursors
      → AreNext rows cursors (least_place (length rows) cursors)
      × (due_rows (frames_of cursors) (drop (least_place (length rows) cursors) rows) ≡ due_rows (frames_of cursors) (drop place rows))
  next_from rows cursors place h all =
      let it = settled (drop place rows) cursors place (length rows) (omega (arith, length-drop place rows)) all in
      let behind : drop it.far (drop place rows) ≡ drop (least_place (length rows) cursors) rows =
      drop-drop it.far place rows ∙ ap (λ p. drop p rows) (sym it.is) in (
        record {
          within = omega (arith, it.is, it.within, length-drop place rows);
          stand = subst (λ p. AllByRecursion (StandsAt p (drop (least_place (length rows) cursors) rows)) cursors) (sym it.is)
              (subst (λ rs. AllByRecursion (StandsAt (place + it.far) rs) cursors) behind it.stand);
          due = λ below row. ap (is_due (frames_of cursors)) (ap (λ p. get_or rows p row) it.is ∙ sym (get_or-drop place rows it.far row))
              ∙ it.due (omega (arith, below, it.is, length-drop place rows)) row;
        },
        ap (due_rows (frames_of cursors)) (sym behind) ∙ it.same,
      )

  -- the first cursors stand at the first rows
  first_stand : (rows : List (Node × A)) (frames : List Frame) → AllByRecursion (StandsAt 0 rows) (cursors_at 0 rows frames)
  first_stand rows [] = tt
  first_stand rows (frame ∷ frames) = (refl, first_stand rows frames)

  first_frames : (rows : List (Node × A)) (frames : List Frame) → frames_of (cursors_at 0 rows frames) ≡ frames
  first_frames rows [] = refl
  first_frames rows (frame ∷ frames) = ap (λ (fs : List Frame). frame ∷ fs) (first_frames rows frames)

  pub first_next : (rows : List (Node × A)) (frames : List Frame) (cursors : List Cursor) → cursors ≡ cursors_at 0 rows frames
      → AreNext rows cursors (least_place (length rows) cursors)
      × (due_rows (frames_of cursors) (drop (least_place (length rows) cursors) rows) ≡ due_rows frames rows)
  first_next rows frames cursors is =
      let it = next_from rows cursors 0 (omega arith) (subst (AllByRecursion (StandsAt 0 rows)) (sym is) (first_stand rows frames)) in
      (it.0, it.1 ∙ ap (λ fs. due_rows fs rows) (ap frames_of is ∙ first_frames rows frames))

  -- A STEP

  moved_stand : ((a b : Frame) → (same_frame a b ≡ true) ↔ (a ≡ b))
      → (place next : ℕ) (row : Node × A) (rows : List (Node × A)) (cursors : List Cursor)
      → next ≡ first_at (frame_of row.0) (suc place) rows → AllByRecursion (StandsAt place (row ∷ rows)) cursors
      → AllByRecursion (StandsAt (suc place) rows) (map (moved (frame_of row.0) next) cursors)
  moved_stand one place next row rows [] is all = tt
  moved_stand one place next row rows (cursor ∷ cursors) is all = elim (cases_Bool (same_frame (frame_of row.0) cursor.frame)) [
    | inl same ↦ (
      subst (StandsAt (suc place) rows) (sym (cond-true _ _ _ same))
          (is ∙ ap (λ f. first_at f (suc place) rows) ((one (frame_of row.0) cursor.frame).0 same)),
      moved_stand one place next row rows cursors is all.1,
    )
    | inr other ↦ (
      subst (StandsAt (suc place) rows) (sym (cond-false _ _ _ other)) (all.0 ∙ cond-false _ _ _ other),
      moved_stand one place next row rows cursors is all.1,
    )
  ]

moved_frame : (frame : Frame) (next : ℕ) (cursor : Cursor) → (moved frame next cursor).frame ≡ cursor.frame
moved_frame frame next cursor = elim (cases_Bool (same_frame frame cursor.frame)) [
  | inl same ↦ ap (λ (c : Cursor). c.frame) (cond-true _ _ _ same)
  | inr other ↦ ap (λ (c : Cursor). c.frame) (cond-false _ _ _ other)
]

moved_frames : (frame : Frame) (next : ℕ) (cursors : List Cursor) → frames_of (map (moved frame next) cursors) ≡ frames_of cursors
moved_frames frame next [] = refl
moved_frames frame next (cursor ∷ cursors) = ap₂ (λ (f : Frame) (fs : List Frame). f ∷ fs) (moved_frame frame next cursor) (moved_frames frame next cursors)

-- a row is taken
taken : {A : Type 0} → ((a b : Frame) → (same_frame a b ≡ true) ↔ (a ≡ b))
    → (rows : List (Node × A)) (nexts : List ℕ) (cursors after : List Cursor)
    (place next : ℕ) (row : Node × A) → AreNext rows cursors place → nexts ≡ nexts_of 0 rows → place < length rows → row ≡ get_or rows place row
    → next ≡ get_or nexts place 0 → after ≡ map (moved (frame_of row.0) next) cursors
    → AreNext rows after (least_place (length rows) after)
    × (due_rows (frames_of cursors) (drop place rows) ≡ row ∷ due_rows (frames_of after) (drop (least_place (length rows) after) rows))
taken {A} one rows nexts cursors after place next row are are_nexts h is next_is after_is =
    let behind = drop (place + 1) rows in
    let more : suc place ≡ place + 1 = omega arith in
    let split : drop place rows ≡ row ∷ behind = drop_more rows place row h ∙ ap (λ (r : Node × A). r ∷ behind) (sym is) in
    let first : next ≡ first_at (frame_of row.0) (suc place) behind =
    next_is ∙ ap (λ ns. get_or ns place 0) are_nexts ∙ next_of_row rows 0 place row 0 h is
    ∙ ap (λ p. first_at (frame_of row.0) p behind) (omega arith) in
    let stand = moved_stand one place next row behind cursors first (subst (λ rs. AllByRecursion (StandsAt place rs) cursors) split are.stand) in
    let next_one = next_from rows after (place + 1) (omega (arith, h))
    (subst (AllByRecursion (StandsAt (place + 1) behind)) (sym after_is)
    (subst (λ p. AllByRecursion (StandsAt p behind) (map (moved (frame_of row.0) next) cursors)) more stand)) in
    let due : is_due (frames_of cursors) row ≡ true = ap (is_due (frames_of cursors)) is ∙ are.due h row in (
      next_one.0,
      ap (due_rows (frames_of cursors)) split ∙ cond-true _ _ _ due
          ∙ ap (λ fs. row ∷ due_rows fs behind) (sym (ap frames_of after_is ∙ moved_frames (frame_of row.0) next cursors))
          ∙ ap (λ (rs : List (Node × A)). row ∷ rs) (sym next_one.1),
    )

-- and written to the cursors
pub row_taken : {A : Type 0} → ((a b : Frame) → (same_frame a b ≡ true) ↔ (a ≡ b))
    → (rows : List (Node × A)) (nexts : List ℕ) (cursors : Vec Cursor Global)
    (written after : List Cursor) (place least : ℕ) (row : Node × A) → AreNext rows cursors.items place → nexts ≡ nexts_of 0 rows → place < length rows
    → row ≡ get_or rows place row → length cursors.items ≡ cursors.len
    → written ≡ map (moved (frame_of row.0) (get_or nexts place 0)) cursors.items
    → after ≡ (with_items cursors written).items → least ≡ least_place (length rows) after
    → AreNext rows (with_items cursors written).items least
    × (due_rows (frames_of cursors.items) (drop place rows) ≡ row ∷ due_rows (frames_of (with_items cursors written).items) (drop least rows))
row_taken {A} one rows nexts cursors written after place least row are are_nexts h is len written_is after_is least_is =
    let held = (with_items cursors written).items in
    let moved_by = moved (frame_of row.0) (get_or nexts place 0) in
    let same : held ≡ written = with_items_is cursors written (omega (arith, ap length written_is, length-map cursors.items moved_by, len)) in
    let one_more = taken one rows nexts cursors.items held place (get_or nexts place 0) row are are_nexts h is refl (same ∙ written_is) in
    let now : least ≡ least_place (length rows) held = least_is ∙ ap (least_place (length rows)) after_is in (
      subst (AreNext rows held) (sym now) one_more.0,
      one_more.1 ∙ ap (λ p. row ∷ due_rows (frames_of held) (drop p rows)) (sym now),
    )
