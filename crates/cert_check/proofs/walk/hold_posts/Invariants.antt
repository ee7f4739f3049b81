use Rattle.std.proofs.Common.{◌≡◌, drop}
use Rattle.cert_check.specs.Refusal.{first_of, post_refusal}
use Rattle.cert_check.proofs.walk.hold_posts.Given as goal

-- the refusal of the posts that are left is that of all
abbrev pub invariant-loop-post : goal.invariant-loop-post
invariant-loop-post g l = let f = post_refusal (g.C.StateText.texts (g.C.Chip.base l.chip)).outside l.table l.line in
    first_of f (drop l.post-index l.posts) ≡ first_of f l.posts
