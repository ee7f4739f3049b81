-- The rows of a certificate are exact, in one line each, and none is the last line.
use Rattle.std.proofs.Common.{◌≡◌, ◌⊎◌, ℕ, refl, sym, ap, ◌∙◌, subst, inl, inr, Option, None, Some, Ok, List, ◌∷◌, ◌++◌}
use Rattle.std.specs.Prelude.{◌↔◌, option_and_then, option_map}
use Rattle.call_context.specs.declared.node.Node.{Node}
use Rattle.chip_analysis.specs.Analysis.{Analysis}
use Rattle.text_fields.specs.Lines.{IsOneLine}
use Rattle.text_fields.specs.Spelling.{IsExact, has_byte-between}
use Rattle.node_fields.specs.Nodes.{node_field, node_in_one_line, row_is_exact, row_text, row_value, split_row}
use Rattle.state_text.specs.Cells.{are_loose}
use Rattle.state_text.specs.Texts.{AreTexts, StateTexts}
use Rattle.cert_text.specs.Certificate.{AreRows, cert1_of, cert_of, node_text, state_field, table_of, table_row, table_step}
use Rattle.cert_text.proofs.NodeLemmas.{node_begins, node_loose}
use Rattle.cert_text.proofs.PagedLemmas.{listing_is_read, read_is_listing}
use Rattle.cert_text.proofs.RowLemmas.{AreLines, IsRowText, listing1_is_read}

module _ {A : Type 0} (a : Analysis A) (texts : StateTexts A) (are : AreTexts a texts) where
  rows_exact : IsExact (table_row a texts)
  unfolding table_row
  rows_exact = row_is_exact texts.digits (state_field a texts) (λ node. record {
    back = λ state form. are.again node state form;
    only = λ text state e. are.takes node text state e;
  })

  pub rows_are_lines : AreLines (table_row a texts) texts.digits
  unfolding table_row
  rows_are_lines = record {
    exact = rows_exact;
    begins = λ row form. subst IsRowText (sym (row_text texts.digits (state_field a texts) row))
        (node_begins texts.digits row.0 (32 ∷ texts.text_of row.1));
    one_line = λ row form. subst IsOneLine (sym (row_text texts.digits (state_field a texts) row))
        (has_byte-between 10 32 (node_text texts row) (texts.text_of row.1) refl (node_in_one_line texts.digits row.0 form.0)
        (are.one_line row.0 row.1 form.1));
    loose = λ row form. ap (are_loose texts.digits) (row_text texts.digits (state_field a texts) row)
        ∙ node_loose texts.digits row.0 (texts.text_of row.1) form.0 (are.loose row.0 row.1 form.1);
  }

  is_read : (text : List ℕ) (rows : List (Node × A)) → AreRows a texts rows → (text ≡ cert_of a texts rows) ⊎ (text ≡ cert1_of a texts rows)
      → table_of a texts text ≡ Ok rows
  unfolding table_step
  is_read text rows are_rows (inl is) =
      ap (table_of a texts) is ∙ listing_is_read (table_row a texts) (node_text texts) texts.digits rows_are_lines rows are_rows
  is_read text rows are_rows (inr is) =
      ap (table_of a texts) is ∙ listing1_is_read (table_row a texts) (node_text texts) texts.digits rows_are_lines rows are_rows

  only_read : (text : List ℕ) (rows : List (Node × A)) → table_of a texts text ≡ Ok rows
      → AreRows a texts rows × ((text ≡ cert_of a texts rows) ⊎ (text ≡ cert1_of a texts rows))
  unfolding table_step
  only_read text rows e = read_is_listing (table_row a texts) (node_text texts) texts.digits rows_are_lines text rows e

  pub certs_are_tables : (text : List ℕ) (rows : List (Node × A))
      → (table_of a texts text ≡ Ok rows) ↔ (AreRows a texts rows × ((text ≡ cert_of a texts rows) ⊎ (text ≡ cert1_of a texts rows)))
  certs_are_tables text rows = (λ e. only_read text rows e, λ is. is_read text rows is.0 is.1)

-- the row of a line is read by its node first
pub row_in : {A : Type 0} (a : Analysis A) (texts : StateTexts A) (line : List ℕ)
    → (table_row a texts).value line ≡ option_and_then (λ (split : Node × List ℕ). option_map (λ state. (split.0, state))
    (texts.state_of split.0 split.1)) (split_row texts.digits line)
unfolding table_row
row_in a texts line = row_value texts.digits (state_field a texts) line

pub row_none : {A : Type 0} (a : Analysis A) (texts : StateTexts A) (digits : ℕ) (line : List ℕ) → digits ≡ texts.digits
    → None ≡ split_row digits line → None ≡ (table_row a texts).value line
row_none a texts digits line same e =
    ap (option_and_then (λ (split : Node × List ℕ). option_map (λ state. (split.0, state)) (texts.state_of split.0 split.1))) (e ∙ ap
    (λ d. split_row d line) same)
    ∙ sym (row_in a texts line)

pub row_found : {A : Type 0} (a : Analysis A) (texts : StateTexts A) (digits : ℕ) (line text : List ℕ) (node : Node) (found : Option A)
    → digits ≡ texts.digits
    → Some (node, text) ≡ split_row digits line → found ≡ texts.state_of node text
    → option_map (λ state. (node, state)) found ≡ (table_row a texts).value line
row_found a texts digits line text node found same e is =
    ap (option_map (λ state. (node, state))) is
    ∙ ap (option_and_then (λ (split : Node × List ℕ). option_map (λ state. (split.0, state)) (texts.state_of split.0 split.1))) (e ∙ ap
    (λ d. split_row d line) same)
    ∙ sym (row_in a texts line)
