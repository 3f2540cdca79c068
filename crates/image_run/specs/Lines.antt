-- The lines that a run of an image prints. Each ends with a line feed.
use Rattle.std.specs.Prelude.{ℕ, List, [], ◌∷◌, ◌++◌, codes}
use Rattle.image_cube.specs.declared.fault.ImageFault.{ImageFault}
use Rattle.image_cube.specs.declared.fault.ImageFault.TheVariants as fault

-- the name of a fault of an image
abbrev pub image_fault_text : ImageFault → List ℕ
image_fault_text fault.TooLong = codes "TooLong"
image_fault_text fault.NotImage = codes "NotImage"
image_fault_text fault.NotShape = codes "NotShape"
image_fault_text fault.NoMemory = codes "NoMemory"

-- `image: FAULT`
unfoldable pub image_line : ImageFault → List ℕ
image_line fault = codes "image: " ++ image_fault_text fault ++ 10 ∷ []
