-- What stands at the addresses of two small images.
use Rattle.std.specs.Prelude.{ℕ, ◌==◌, nat_le, ◌&&◌, if◌then◌else◌}
use Rattle.promises.specs.declared.spoken.Growth.{Growth}
use Rattle.promises.specs.declared.spoken.Growth.TheVariants.{Down, Up}
use Rattle.promises.specs.declared.spoken.Site.{Site}
use Rattle.promises.specs.declared.spoken.Site.TheVariants.{Nothing, Store, Way}
use Rattle.promises.specs.Spoken.{Spoken}

-- at F00Eh, and at each address of C000h to CFFFh, a store of a byte, at F010h of a word; at F012h a way
abbrev pub below : ℕ → Site
below pc =
    if pc == 61454 then Store 1
    else if pc == 61456 then Store 2
    else if pc == 61458 then Way
    else if nat_le 49152 pc && nat_le pc 53247 then Store 1
    else Nothing

-- at 000Ah a store of a byte, at 000Ch a way
abbrev pub above : ℕ → Site
above pc = if pc == 10 then Store 1 else if pc == 12 then Way else Nothing

abbrev pub site_at : Growth → ℕ → Site
site_at Down pc = below pc
site_at Up pc = above pc

abbrev pub small : Growth → Spoken
small growth = record { growth = growth; at = site_at growth }
