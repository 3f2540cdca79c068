-- Why a feed is not loaded, by what reading it answered.
use Rattle.top_call.specs.declared.demo.loading.LoadFault.{LoadFault}
use Rattle.top_call.specs.declared.demo.loading.LoadFault.TheVariants as load
use Rattle.feed_reader.specs.declared.feed.NoHeader.{NoHeader}
use Rattle.feed_reader.specs.declared.feed.NoHeader.TheVariants as head
use Rattle.outer_io.specs.declared.cutter.CutFault.{CutFault}
use Rattle.outer_io.specs.declared.cutter.CutFault.TheVariants as cut

-- more than 2^30 bytes are refused
abbrev pub fault_of_cut : CutFault → LoadFault
fault_of_cut cut.Read = load.Read
fault_of_cut cut.TooMuch = load.Refused
fault_of_cut cut.NoMemory = load.NoMemory

-- every fault of a header refuses the feed
abbrev pub fault_of_head : NoHeader → LoadFault
fault_of_head (head.Refused fault) = load.Refused
fault_of_head head.Read = load.Read
fault_of_head head.NoMemory = load.NoMemory
