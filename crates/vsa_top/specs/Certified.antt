-- What a certificate is worth: the text of rows that are a closed table.
use Rattle.std.specs.Prelude.{◌≡◌, ◌⊎◌, ℕ, Option, List}
use Rattle.analysis_limits.specs.declared.limits.Limits.{Limits}
use Rattle.call_context.specs.declared.node.Node.{Node}
use Rattle.cert_text.specs.Certificate.{AreRows, cert1_of, cert_of}
use Rattle.chip_analysis.specs.Analysis.{Analysis}
use Rattle.chip_analysis.specs.Table.{IsClosedTable}
use Rattle.closed_book.specs.ClosedBook.{table_in}
use Rattle.state_text.specs.Texts.{StateTexts}
use Rattle.vsa_top.specs.Family.{family_of}
use Rattle.vsa_words.specs.declared.reading.Target.{Target}

-- the text is the certificate of nodes in form with their states, in one of both versions, and they are a closed table
pub record IsClosedCert {A : Type 0} (analysis : Analysis A) (texts : StateTexts A) (text : List ℕ) : Type 0 where
  pub rows : List (Node × A)
  pub formed : AreRows analysis texts rows
  pub written : (text ≡ cert_of analysis texts rows) ⊎ (text ≡ cert1_of analysis texts rows)
  pub closed : IsClosedTable analysis (table_in rows)

-- it is that of the chip with this image, under these limits
abbrev pub IsClosedCertOf : Target → Limits → (image : List (Option ℕ)) → (text : List ℕ) → Type 0
IsClosedCertOf target limits image text = let f = family_of target image in IsClosedCert (f.analysis limits) f.texts text
