-- What an image and its chip say of the instructions that promises may name.
use Rattle.std.specs.Prelude.{ℕ}
use Rattle.promises.specs.declared.spoken.Growth.{Growth}
use Rattle.promises.specs.declared.spoken.Site.{Site}

pub record Spoken : Type 0 where
  -- how the stack grows
  pub growth : Growth
  -- what stands at an address
  pub at : ℕ → Site
