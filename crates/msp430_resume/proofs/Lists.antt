-- A list that was gone over to its end.
use Rattle.std.proofs.Common.{◌≡◌, ℕ, ◌≤◌, ◌++◌, List, [], map, length, take, drop, sym, ◌∙◌, arith}
use Rattle.std.proofs.lemmas.List.{append-nil, drop_all, take_all}
use Rattle.entry_value.specs.declared.word.Word.{Word}

pub all_resumed : (g : Word → Word) (n i : ℕ) (words exit made : List Word) → n ≤ i → length words ≡ n → length exit ≡ n
    → take i words ++ map g (drop i exit) ≡ made → words ≡ made
all_resumed g n i words exit made far long exit_long so_far =
    let none : drop i exit ≡ [] = drop_all i exit (omega arith) in
    let all : take i words ≡ words = take_all i words (omega arith) in
    let joined = rw (all, none) at so_far in
    sym (append-nil words) ∙ joined
