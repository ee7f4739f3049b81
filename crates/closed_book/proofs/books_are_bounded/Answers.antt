use Rattle.closed_book.proofs.books_are_bounded.Goals as goal

pub returns : goal.returns
returns g c = λ base journal program legal.
    let laws = c.order_laws.ensures base program in
    record {
      rises = c.rises_are_bounded.ensures.most base journal laws.keeps laws.ordered.topped legal;
      claims = λ unit. c.claims_are_bounded.ensures base journal unit laws.keeps laws.ordered.topped legal;
    }
