-- What holds of each chip holds of both, and an image that is given is a program of its chip.
use Rattle.std.specs.Prelude.{◌≡◌, ◌↔◌, ◌⊎◌, ℕ, true, Option, Ok, List}
use Rattle.analysis_limits.specs.declared.limits.Limits.{Limits}
use Rattle.call_context.specs.declared.node.Node.{Node}
use Rattle.cert_text.specs.Certificate.{AreRows, cert1_of, cert_of, table_of}
use Rattle.cert_verdict.specs.Verdict.{IsVerdict}
use Rattle.cert_verdict.specs.Verdict.IsVerdict.{closed, refused, faulty}
use Rattle.chip_analysis.specs.Analysis.{Analysis}
use Rattle.image.specs.declared.ram_range.RamRange.{RamRange}
use Rattle.mcs51_flow.specs.Chip.{IsSetting as IsMcs51Program}
use Rattle.msp430_flow.specs.Chip.{IsSetting as IsMsp430Program}
use Rattle.state_text.specs.Texts.{StateTexts}
use Rattle.vsa_top.specs.Certified.{IsClosedCert}
use Rattle.vsa_top.specs.Laws.{AreOneOf, AreTrueOf, IsGiven}
use Rattle.vsa_top.specs.Settings.{mcs51_setting, msp430_setting}
use Rattle.vsa_words.specs.declared.reading.Target.{Target}
use Rattle.vsa_words.specs.declared.reading.Target.TheVariants.{Msp430, Mcs51}

pub is_msp430 : (ram : RamRange) (limits : Limits) (image : List (Option ℕ)) → IsGiven (Msp430 ram) limits image
    → IsMsp430Program (msp430_setting ram limits image)
is_msp430 ram limits image given = record { program = record { read = given.read; ram = given.ram; top = given.top }; calls = given.calls }

pub is_mcs51 : (limits : Limits) (image : List (Option ℕ)) → IsGiven Mcs51 limits image → IsMcs51Program (mcs51_setting limits image)
is_mcs51 limits image given = record { program = given.read; calls = given.calls }

pub of_each : (P : Target → Type 0) → ((ram : RamRange) → P (Msp430 ram)) → P Mcs51 → (target : Target) → P target
of_each P msp430 mcs51 (Msp430 ram) = msp430 ram
of_each P msp430 mcs51 Mcs51 = mcs51

-- what is known of both chips
abbrev pub HaveTruths : Type 0
HaveTruths = (target : Target) (limits : Limits) (image : List (Option ℕ)) → IsGiven target limits image → AreTrueOf target limits image

abbrev pub HaveOnes : Type 0
HaveOnes = (target : Target) (limits : Limits) (image : List (Option ℕ)) → AreOneOf target limits image

-- a text whose verdict is a closed table's is the certificate of one
pub closes_by : {A : Type 0} (text_of : ℕ → List ℕ → List ℕ) (a : Analysis A) (texts : StateTexts A) (text told : List ℕ)
    → ((rows : List (Node × A)) → (table_of a texts text ≡ Ok rows)
    ↔ (AreRows a texts rows × ((text ≡ cert_of a texts rows) ⊎ (text ≡ cert1_of a texts rows))))
    → IsVerdict text_of a texts text true told → IsClosedCert a texts text
closes_by text_of a texts text told tables (closed rows table none book is_closed told_is) =
    let are = (tables rows).0 table in record { rows = rows; formed = are.0; written = are.1; closed = book.closed }
closes_by text_of a texts text told tables (refused rows why table some is_closed told_is) = absurd (cc)
closes_by text_of a texts text told tables (faulty line fault table is_closed told_is) = absurd (cc)
