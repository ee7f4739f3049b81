use Rattle.std.proofs.Common.{◌≡◌, refl, sym, subst, rules, arith, length}
use Rattle.round_core.specs.Agenda.{IsIn}
use Rattle.std.specs.Prelude.{vec_len}
use Rattle.round_core.specs.Raise.{held_of}
use Rattle.round_core.proofs.ExpectLemmas.{grows-then, expects-rows}
use Rattle.round_core.proofs.Cases.{length-parts}
use Rattle.round_core.proofs.PostEvent.{grown-shown}
use Rattle.round_core.proofs.parts.Parts.prepare.Goals as goal

pub returns-in_err-expect_raised-clause-shown : goal.returns-in_err-expect_raised-clause-shown
returns-in_err-expect_raised-clause-shown g c = λ b s. grown-shown b c.args.self.now _ refl refl refl c.expect_raised.ensures.grows s

pub returns-in_err-expect_unit-clause-shown : goal.returns-in_err-expect_unit-clause-shown
returns-in_err-expect_unit-clause-shown g c = λ b s.
    grown-shown b c.args.self.now _ refl refl refl (grows-then _ _ _ c.expect_raised.ensures.grows c.expect_unit.ensures.grows) s

pub returns-in_err-reserve-clause-shown : goal.returns-in_err-reserve-clause-shown
returns-in_err-reserve-clause-shown g c = λ b s.
    grown-shown b c.args.self.now _ c.reserve.ensures.rows refl refl (grows-then _ _ _ c.expect_raised.ensures.grows c.expect_unit.ensures.grows) s

pub returns-in_err-reserve-2-clause-shown : goal.returns-in_err-reserve-2-clause-shown
returns-in_err-reserve-2-clause-shown g c = λ b s.
    grown-shown b c.args.self.now _ c.reserve.ensures.rows c.reserve-2.ensures.rows refl (grows-then _ _ _ c.expect_raised.ensures.grows c.expect_unit.ensures.grows) s

pub returns-clause-shown : goal.returns-clause-shown
returns-clause-shown g c = λ b s.
    grown-shown b c.args.self.now _ c.reserve.ensures.rows c.reserve-2.ensures.rows refl (grows-then _ _ _ c.expect_raised.ensures.grows c.expect_unit.ensures.grows) s

pub returns-clause-prepared : goal.returns-clause-prepared
returns-clause-prepared g c =
    let p = c.args.self.now in
    let rs = c.args.raised.now.rows.items in
    let len : vec_len c.args.raised.now.rows ≡ length rs = search rules in
    let parts = length-parts held_of rs in
    let count = c.len.ensures in
    let room = c.in_ok-reserve.ensures.room in
    let work_room = c.in_ok-reserve-2.ensures.room in
    record {
      nodes = c.reserve.ensures.rows;
      works = c.reserve-2.ensures.rows;
      turns = refl;
      distinct = c.requires.distinct;
      room = omega arith;
      work_room = omega arith;
      agenda = (
        c.expect_raised.new.agenda,
        expects-rows p.works.rows p.agenda c.expect_raised.new.agenda p.nodes.rows rs c.requires.placed
            (λ r h. c.in_ok-expect_raised.ensures.expected r (subst (λ t. IsIn r t) (sym c.as_slice.ensures.value) h)),
        c.expect_raised.ensures.grows,
        c.in_ok-expect_unit.ensures.expected,
        c.expect_unit.ensures.grows,
      );
    }
