-- Places that are kept for frames, as the map holds them.
use Rattle.std.specs.Prelude.{◌≡◌, ℕ, cond, Some, List, [], ◌∷◌, map, unwrap_or}
use Rattle.std.specs.Option.{option_map}
use Rattle.std.specs.Map.{lookup}
use Rattle.std.proofs.Common.{refl, sym, ◌∙◌, ap, subst, inl, inr}
use Rattle.call_context.specs.declared.node.Frame.{Frame}
use Rattle.round_core.proofs.DerivedTests.{TellsEqual, frame_eq, frame_eq-same}
use Rattle.book_rules.specs.Same.{same_frame}
use Rattle.book_rules.specs.SameTests.{same_frame-eq, same_frame-refl}
use Rattle.round_core.specs.Agenda.{IsIn, places_in, KeepsPlaces}
use Rattle.round_core.proofs.Cases.{truth, if_true, if_false}

module _ {V : Type 0} (tells : TellsEqual frame_eq) (items : V → List ℕ) where
  -- what contracts see of the entries
  abbrev pub seen : List (Frame × V) → List (Frame × List ℕ)
  seen es = map (λ e. (e.0, items e.1)) es

  pub lookup-seen : (f : Frame) (es : List (Frame × V)) → lookup (same_frame f) (seen es) ≡ option_map items (lookup (frame_eq f) es)
  lookup-seen f [] = refl
  lookup-seen f (e ∷ es) = elim (truth (same_frame f e.0)) [
    | inl s ↦ if_true _ _ _ s ∙ ap (λ o. option_map items o) (sym (if_true _ _ _ (frame_eq-same tells f e.0 ∙ s)))
    | inr s ↦ if_false _ _ _ s ∙ lookup-seen f es ∙ ap (λ o. option_map items o) (sym (if_false _ _ _ (frame_eq-same tells f e.0 ∙ s)))
  ]

  -- the places of a frame among the entries
  abbrev pub held : List (Frame × V) → Frame → List ℕ
  held es f = unwrap_or (option_map items (lookup (frame_eq f) es)) []

  pub places-held : (es : List (Frame × V)) (f : Frame) → places_in (seen es) f ≡ held es f
  places-held es f = ap (λ o. unwrap_or o []) (lookup-seen f es)

  -- the second entries are the first with one more value
  abbrev pub Writes : List (Frame × V) → List (Frame × V) → Frame → V → Type 0
  Writes old new f w = (q : Frame) → lookup (frame_eq q) new ≡ cond (frame_eq f q) (Some w) (lookup (frame_eq q) old)

  pub writes-added : (old new : List (Frame × V)) (f : Frame) (w : V) → Writes old new f w → (place : ℕ)
      → IsIn place (items w) → IsIn place (places_in (seen new) f)
  writes-added old new f w e place h =
      let own : lookup (frame_eq f) new ≡ Some w = e f ∙ if_true _ _ _ (frame_eq-same tells f f ∙ same_frame-refl f) in
      subst (λ ps. IsIn place ps) (sym (places-held new f ∙ ap (λ o. unwrap_or (option_map items o) []) own)) h

  pub writes-kept : (old new : List (Frame × V)) (f : Frame) (w : V) → Writes old new f w
      → ((p : ℕ) → IsIn p (held old f) → IsIn p (items w)) → KeepsPlaces (seen old) (seen new)
  writes-kept old new f w e more q p h =
      let was : IsIn p (held old q) = subst (λ ps. IsIn p ps) (places-held old q) h in
      elim (truth (frame_eq f q)) [
        | inl s ↦
            let same : f ≡ q = same_frame-eq f q (sym (frame_eq-same tells f q) ∙ s) in
            let now : lookup (frame_eq q) new ≡ Some w = e q ∙ if_true _ _ _ s in
            subst (λ ps. IsIn p ps) (sym (places-held new q ∙ ap (λ o. unwrap_or (option_map items o) []) now))
            (more p (subst (λ g. IsIn p (held old g)) (sym same) was))
        | inr s ↦
            let now : lookup (frame_eq q) new ≡ lookup (frame_eq q) old = e q ∙ if_false _ _ _ s in
            subst (λ ps. IsIn p ps) (sym (places-held new q ∙ ap (λ o. unwrap_or (option_map items o) []) now)) was
      ]
