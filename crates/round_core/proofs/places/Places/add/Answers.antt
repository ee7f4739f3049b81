use Rattle.std.proofs.Common.{sym, subst, IsSome}
use Rattle.std.specs.Map.{lookup}
use Rattle.round_core.proofs.DerivedTests.{frame_eq}
use Rattle.round_core.specs.Agenda.{seen, KeepsPlaces}
use Rattle.round_core.proofs.Cases.{on_ok, is_none_of}
use Rattle.round_core.proofs.places.Places.add.Goals as goal

pub add_new-requires : goal.add_new-requires
add_new-requires c = is_none_of _ c.if-contains_key.ensures

pub returns-then-contains_key-clause-added : goal.returns-then-contains_key-clause-added
returns-then-contains_key-clause-added c =
    on_ok (IsSome (lookup (frame_eq c.args.frame.now) c.self.inside.by_frame.entries)) _ c.add_to_present.result c.add_to_present.ensures.added
    (sym c.if-contains_key.ensures)

pub returns-then-contains_key-clause-kept : goal.returns-then-contains_key-clause-kept
returns-then-contains_key-clause-kept c =
    subst (λ v. KeepsPlaces v (seen c.add_to_present.new.by_frame.entries)) c.self.view_is c.add_to_present.ensures.kept

pub returns-else-contains_key-clause-kept : goal.returns-else-contains_key-clause-kept
returns-else-contains_key-clause-kept c =
    subst (λ v. KeepsPlaces v (seen c.add_new.new.by_frame.entries)) c.self.view_is c.add_new.ensures.kept
