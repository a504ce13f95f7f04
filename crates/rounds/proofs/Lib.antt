-- Start at Demands, the front page. Below it stand, in this order: the examples; what a verdict tells; that a run is made of accepted sends,
-- receives and steps; what each of these keeps and does; what the deeds of a run tell; and what follows for runs.
pub mod Demands
pub mod AllExamples
pub mod NotAToy
pub mod Updates
pub mod Answers
pub mod Broadcasts
pub mod MadeOfThree
pub mod Kept
pub mod Limits
pub mod Lead
pub mod Counts
pub mod Reach
pub mod Live
pub mod Mail
pub mod Table
pub mod Effects
pub mod InTurn
pub mod Recorded
pub mod Last
pub mod Deeds
pub mod History
pub mod Underway
pub mod Throughout
pub mod Independence
pub mod Nights
