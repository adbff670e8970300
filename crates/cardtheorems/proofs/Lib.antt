-- Every accepted reading has a catalogue card: theorems about the definitions of `rules` and `card`.
pub mod Ranges
pub mod Values
pub mod Tokens
pub mod Fields
pub mod Marks
pub mod States
pub mod Counts
pub mod Turned
pub mod CardNotes
pub mod CardBars
pub mod HasCard
