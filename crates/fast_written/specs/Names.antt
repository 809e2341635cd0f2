-- What a name in a template text is.
-- Own: FAST 1.1, Template Definition, leaves it open which texts are names.
use Rattle.std.specs.Prelude.{◌&&◌, ℕ, nat_le, Bool, List, length}
use Rattle.std.specs.List.{list_all}

-- 1 to 255 bytes from '!' to '~'
abbrev pub is_name : List ℕ → Bool
is_name s = nat_le 1 (length s) && nat_le (length s) 255 && list_all (λ c. nat_le 33 c && nat_le c 126) s
